-- Which closed forms have a constant past 4,000,000.
use Rattle.std.proofs.Common.{◌≡◌, ℕ, suc, ◌+◌, ◌*◌, ◌/◌, ◌%◌, ◌<◌, Bool, true, false, cond, not, ◌&&◌, ◌||◌, eqb, leb, ◌↔◌, List, [], ◌∷◌, length, get_or, pos, Some, None, Option, sym, refl, ap, ◌∙◌, ⊎_elim, arith}
use Rattle.std.proofs.lemmas.Bool.{and_cases, both_ways, cases_Bool, leb-false}
use Rattle.weight.specs.Bounds.{limit_size, all_small}
use Rattle.weight.specs.Closing.{cell, empty_form}
use Rattle.weight.specs.Limits.{Limit, under, up_to, free, limit_leb, limit_plus}
use Rattle.weight.proofs.Sizes.{small_within}
use Rattle.zone_theory.specs.Exact.{Closes}
use Rattle.zone_theory.specs.Matrices.{tighter, tightened, cut_limits, home, reset_limits, delay_limits, Large}
use Rattle.zone_theory.specs.Sets.{tabled, canonical_form, or_empty, cut_weights, cut_form, reset_of, reset_form, delay_of, delay_form}
use Rattle.zone_theory.proofs.Exact.{alike_closes, alike_falls}
use Rattle.zone_theory.proofs.Forms.{form_closes, form_falls, cut_cells, cut_length, reset_cells, reset_length, delay_cells, delay_length, limit_embeds}
use Rattle.zone_theory.proofs.Images.{same_closed_form}
use Rattle.weight.specs.Limited.{limit_laws}
use Rattle.zone_theory.proofs.Resets.{home_in}

pub empty_small : all_small (empty_form (under (pos 0))) ≡ true
unfolding empty_form
empty_small = refl

large_place : (ls : List Limit) → all_small ls ≡ false → (p : ℕ) × (p < length ls) × (4000000 < limit_size (get_or ls p free))
large_place [] e = absurd (both_ways true e refl)
large_place (l ∷ ls) e =
    ⊎_elim
    (λ here. (0, omega arith, leb-false (limit_size l) 4000000 here))
    (λ after. let r = large_place ls after in (suc r.0, omega (arith, r.1), r.2))
    (and_cases (leb (limit_size l) 4000000) (all_small ls) e)

large_cell : (ls : List Limit) → length ls ≡ 49 → (all_small ls ≡ false) ↔ Large (cell free ls)
large_cell ls long = (
  λ e.
      let r = large_place ls e in
      let p = r.0 in
      let h : p < 49 = omega (arith, r.1) in
      let whole : 7 * (p / 7) + p % 7 ≡ p = omega arith in
      (p / 7, p % 7, omega arith, omega arith, rw whole r.2),
  λ large.
      ⊎_elim (λ t. absurd (omega (arith, small_within ls 4000000 (omega arith) t large.0 large.1 large.2 large.3, large.4))) (λ e. e) (cases_Bool (all_small ls)),
)

module _ (xs : List Limit) (turn : Option (List Limit) → List Limit) (F : (ℕ → ℕ → Limit) → ℕ → ℕ → Limit)
    (none : turn None ≡ empty_form (under (pos 0)))
    (cells : (ys : List Limit) (i j : ℕ) → i < 7 → j < 7 → cell free (turn (Some ys)) i j ≡ F (cell free ys) i j)
    (same : (d e : ℕ → ℕ → Limit) → ((i j : ℕ) → i < 7 → j < 7 → d i j ≡ e i j) → (i j : ℕ) → i < 7 → j < 7 → F d i j ≡ F e i j) where
  large_by : (o : Option (List Limit)) → canonical_form limit_leb limit_plus (up_to (pos 0)) free (under (pos 0)) xs ≡ o → length (turn o) ≡ 49
      → (all_small (turn o) ≡ false) ↔ ((new : ℕ → ℕ → Limit) × Closes (cell free xs) new × Large (F new))
  large_by (Some ys) is long = (
    λ e.
        let l = (large_cell (turn (Some ys)) long).0 e in
        (cell free ys, form_closes limit_embeds xs ys is, (l.0, l.1, l.2, l.3, rw (← cells ys l.0 l.1 l.2 l.3) l.4)),
    λ r.
        let l = r.2 in
        let one = alike_closes (cell free xs) (cell free xs) (cell free ys) r.0 (form_closes limit_embeds xs ys is) r.1 (λ s v p six. (λ h. h, λ h. h)) in
        (large_cell (turn (Some ys)) long).1 (l.0, l.1, l.2, l.3, rw (cells ys l.0 l.1 l.2 l.3, same (cell free ys) r.0 one l.0 l.1 l.2 l.3) l.4),
  )
  large_by None is long = (
    λ e. absurd (both_ways (all_small (turn None)) e (ap all_small none ∙ empty_small)),
    λ r. absurd (alike_falls (cell free xs) (cell free xs) r.0 (form_falls limit_embeds xs is) r.1 (λ s v p six. (λ h. h, λ h. h))),
  )

closes_same : (d e new : ℕ → ℕ → Limit) → ((i j : ℕ) → i < 7 → j < 7 → d i j ≡ e i j) → Closes d new → Closes e new
closes_same d e new same form =
    same_closed_form limit_laws (tightened d) (tightened e) (λ i j hi hj. ap (λ x. cond (eqb i 0 || eqb i j) (tighter x (up_to (pos 0))) x) (same i j hi hj)) new form

pub cut_large : (xs : List Limit) (i j : ℕ) (b : Limit)
    → (all_small (cut_form limit_leb limit_plus (up_to (pos 0)) free (under (pos 0)) xs i j b) ≡ false) ↔ ((new : ℕ → ℕ → Limit) × Closes (cut_limits (cell free xs) i j b) new × Large new)
cut_large xs i j b =
    let ys = tabled (cut_weights limit_leb limit_plus (up_to (pos 0)) free (under (pos 0)) (cell free xs) i j b) in
    let l = large_by ys (or_empty limit_leb limit_plus (up_to (pos 0)) free (under (pos 0))) (λ d. d) refl (λ zs p q hp hq. refl) (λ d e same. same) (canonical_form limit_leb limit_plus (up_to (pos 0)) free (under (pos 0)) ys) refl (cut_length limit_embeds xs i j b) in
    let cells = cut_cells limit_embeds xs i j b in (
      λ e. let r = l.0 e in (r.0, closes_same (cell free ys) (cut_limits (cell free xs) i j b) r.0 cells r.1, r.2),
      λ r. l.1 (r.0, closes_same (cut_limits (cell free xs) i j b) (cell free ys) r.0 (λ p q hp hq. sym (cells p q hp hq)) r.1, r.2),
    )

pub reset_large : (set : ℕ → Bool) (xs : List Limit)
    → (all_small (reset_form limit_leb limit_plus (up_to (pos 0)) free (under (pos 0)) set xs) ≡ false) ↔ ((new : ℕ → ℕ → Limit) × Closes (cell free xs) new × Large (reset_limits set new))
reset_large set xs =
    large_by xs (reset_of limit_leb limit_plus (up_to (pos 0)) free (under (pos 0)) set) (reset_limits set) refl (reset_cells limit_embeds set)
    (λ d e same i j hi hj. same (home set i) (home set j) (home_in set i hi) (home_in set j hj))
    (canonical_form limit_leb limit_plus (up_to (pos 0)) free (under (pos 0)) xs) refl (reset_length limit_embeds set xs)

pub delay_large : (xs : List Limit)
    → (all_small (delay_form limit_leb limit_plus (up_to (pos 0)) free (under (pos 0)) xs) ≡ false) ↔ ((new : ℕ → ℕ → Limit) × Closes (cell free xs) new × Large (delay_limits new))
delay_large xs =
    large_by xs (delay_of limit_leb limit_plus (up_to (pos 0)) free (under (pos 0))) delay_limits refl (delay_cells limit_embeds)
    (λ d e same i j hi hj. ap (λ x. cond (not (eqb i 0) && eqb j 0) free x) (same i j hi hj))
    (canonical_form limit_leb limit_plus (up_to (pos 0)) free (under (pos 0)) xs) refl (delay_length limit_embeds xs)
