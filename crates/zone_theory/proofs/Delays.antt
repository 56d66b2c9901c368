-- Time going on.
use Rattle.std.proofs.Common.{◌≡◌, ℕ, zero, suc, ◌+◌, ◌*◌, ◌<◌, ◌≤◌, Bool, true, false, not, ◌&&◌, eqb, ◌⊎◌, List, length, sym, refl, ap, ◌∙◌, subst, inl, inr, ⊎_elim, arith}
use lib.ListN.{length-map}
use Rattle.std.proofs.lemmas.Bool.{cases_eq, cond_both, cond-true, cond-false, ne_eqb}
use Rattle.std.proofs.lemmas.Bool.Decides.{nat_tests}
use Rattle.weight.specs.Limits.{Limit, free, limit_leb, limit_plus}
use Rattle.weight.specs.Weights.{Closed, Beneath}
use Rattle.zone_theory.specs.Exact.{Delay}
use Rattle.zone_theory.specs.Matrices.{delay_limits}
use Rattle.clocks.specs.Readings.{count_at, times, later}
use Rattle.zone_theory.specs.Readings.{Obeys, Meets, Holds, Fine}
use Rattle.zone_theory.proofs.Moves.{holds_times}
use Rattle.weight.specs.Limited.{limit_laws}
use Rattle.zone_theory.proofs.LimitLaws.{limit_top}
use Rattle.zone_theory.proofs.Counts.{same_counts, count_times, count_later}
use Rattle.zone_theory.proofs.Obeyed.{obeys_same, obeys_shift, obeys_less}
use Rattle.zone_theory.proofs.Points.{point, with_count, extended}
use Rattle.zone_theory.proofs.Found.{fine_sound, fine_low, from_zero, count_from_zero, grounded}

-- the limits that are kept
delay_keeps : (d : ℕ → ℕ → Limit) (i j : ℕ) → (i ≡ 0) ⊎ (j ≡ 0 → ⊥) → delay_limits d i j ≡ d i j
delay_keeps d i j c = cond-false (not (eqb i 0) && eqb j 0) free (d i j) (grind (arith, nat_tests))

kept_cases : (i j : ℕ) → (not (eqb i 0) && eqb j 0) ≡ false → (i ≡ 0) ⊎ (j ≡ 0 → ⊥)
kept_cases i j e = ⊎_elim (λ (p : i ≡ 0). inl p) (λ (p : i ≡ 0 → ⊥). inr (λ q. grind (arith, nat_tests))) (cases_eq i 0)

delay_frees : (d : ℕ → ℕ → Limit) (i : ℕ) → (i ≡ 0 → ⊥) → delay_limits d i 0 ≡ free
delay_frees d i ne = cond-true (not (eqb i 0) && eqb 0 0) free (d i 0) (grind (arith, nat_tests))

delay_above : (d : ℕ → ℕ → Limit) → Beneath limit_leb d (delay_limits d)
delay_above d i j hi hj =
    cond_both (not (eqb i 0) && eqb j 0) free (d i j) (λ x. limit_leb (d i j) x ≡ true) (λ e. limit_top (d i j)) (λ e. limit_laws.self (d i j))

plus_free : (x y : Limit) → (x ≡ free) ⊎ (y ≡ free) → limit_plus x y ≡ free
plus_free x y c = grind arith

delay_closed : (d : ℕ → ℕ → Limit) → Closed limit_leb limit_plus d → Closed limit_leb limit_plus (delay_limits d)
delay_closed d closed i k j hi hk hj =
    let e : ℕ → ℕ → Limit = delay_limits d in
    cond_both (not (eqb i 0) && eqb j 0) free (d i j) (λ x. limit_leb x (limit_plus (e i k) (e k j)) ≡ true)
    (λ p.
    let at : (i ≡ 0 → ⊥) × (j ≡ 0) = (λ z. grind (arith, nat_tests), grind (arith, nat_tests)) in
    let one : (e i k ≡ free) ⊎ (e k j ≡ free) =
    ⊎_elim (λ (q : k ≡ 0). inl (ap (e i) q ∙ delay_frees d i at.0)) (λ (q : k ≡ 0 → ⊥). inr (ap (e k) at.1 ∙ delay_frees d k q)) (cases_eq k 0) in
    subst (λ x. limit_leb free x ≡ true) (sym (plus_free (e i k) (e k j) one)) refl)
    (λ p.
    limit_laws.trans (d i j) (limit_plus (d i k) (d k j)) (limit_plus (e i k) (e k j)) (closed i k j hi hk hj)
    (limit_laws.keeps (d i k) (e i k) (d k j) (e k j) (delay_above d i k hi hk) (delay_above d k j hk hj)))

pub delay_fine : (d : ℕ → ℕ → Limit) → Fine d → Fine (delay_limits d)
delay_fine d f =
    record {
      closed = delay_closed d f.closed;
      flat = λ i h. delay_keeps d i i (cases_eq i 0) ∙ f.flat i h;
      rooted = λ i h. rw (delay_keeps d 0 i (inl refl)) (f.rooted i h);
    }

abbrev proper : ℕ → Bool
proper i = not (eqb i 0)

proper_true : (i : ℕ) → proper i ≡ true → i ≡ 0 → ⊥
proper_true i e z = grind (arith, nat_tests)

-- a reading after a wait
delay_obeys : (d : ℕ → ℕ → Limit) (s n : ℕ) (v : List ℕ) → length v ≡ 6 → Holds d s v → (i j : ℕ) → i < 7 → j < 7 → (i ≡ 0) ⊎ (j ≡ 0 → ⊥)
    → Obeys (d i j) s (count_at (later n v) i) (count_at (later n v) j)
delay_obeys d s n v l h zero zero hi hj c = h 0 0 hi hj
delay_obeys d s n v l h zero (suc j) hi hj c =
    obeys_less (d 0 (suc j)) s 0 (count_at v (suc j)) (count_at (later n v) (suc j)) (omega (arith, count_later n v (suc j) l (omega arith) hj)) (h 0 (suc j) hi hj)
delay_obeys d s n v l h (suc i) zero hi hj c = absurd (omega arith)
delay_obeys d s n v l h (suc i) (suc j) hi hj c =
    let b = d (suc i) (suc j) in
    obeys_same b b s (count_at v (suc i) + n) (count_at v (suc j) + n) (count_at (later n v) (suc i)) (count_at (later n v) (suc j)) refl
    (count_later n v (suc i) l (omega arith) hi) (count_later n v (suc j) l (omega arith) hj)
    (obeys_shift b s n (count_at v (suc i)) (count_at v (suc j)) (h (suc i) (suc j) hi hj))

pub delay_in : (d : ℕ → ℕ → Limit) (s n : ℕ) (v : List ℕ) → length v ≡ 6 → Holds d s v → Holds (delay_limits d) s (later n v)
delay_in d s n v l h i j hi hj =
    cond_both (not (eqb i 0) && eqb j 0) free (d i j) (λ x. Obeys x s (count_at (later n v) i) (count_at (later n v) j)) (λ _. tt)
    (λ e. delay_obeys d s n v l h i j hi hj (kept_cases i j e))

module _ (d : ℕ → ℕ → Limit) (s : ℕ) (v : List ℕ) (six : length v ≡ 6) where
  pub delay_forth : Delay d s v → Holds (delay_limits d) s v
  delay_forth r =
      holds_times (delay_limits d) r.0 s v r.3 six
      (subst (Holds (delay_limits d) (r.0 * s)) (sym r.6) (delay_in d (r.0 * s) r.1 r.2 r.4 r.5))

  module _ (f : Fine d) (positive : 1 ≤ s) (holds : Holds (delay_limits d) s v) where
    delay_kept : (i j : ℕ) → i < 7 → j < 7 → (i ≡ 0) ⊎ (j ≡ 0 → ⊥) → Obeys (d i j) s (count_at v i) (count_at v j)
    delay_kept i j hi hj c =
        obeys_same (delay_limits d i j) (d i j) s (count_at v i) (count_at v j) (count_at v i) (count_at v j) (sym (delay_keeps d i j c)) refl refl (holds i j hi hj)

    delay_count : (x : ℕ) → Meets d (2 * s) (with_count (count_at v) 0 x) → (i : ℕ) → i < 7
        → count_at (times 2 v) i ≡ count_at (later x (from_zero (with_count (count_at v) 0 x))) i
    delay_count x m zero h = refl
    delay_count x m (suc i) h =
        let w : ℕ → ℕ = with_count (count_at v) 0 x in
        let far : w (suc i) ≡ 2 * count_at v (suc i) = cond-false (eqb (suc i) 0) x (2 * count_at v (suc i)) (ne_eqb (suc i) 0 (omega arith)) in
        count_times 2 v (suc i) six h
        ∙ omega (arith, fine_low d (2 * s) w f (omega arith) m (suc i) h, count_from_zero w (suc i) h, count_later x (from_zero w) (suc i) refl (omega arith) h)

    delay_from : (x : ℕ) → Meets d (2 * s) (with_count (count_at v) 0 x) → Delay d s v
    delay_from x m =
        let w : ℕ → ℕ = with_count (count_at v) 0 x in (
          2,
          x,
          from_zero w,
          omega arith,
          refl,
          grounded d (2 * s) w f (omega arith) m,
          same_counts (times 2 v) (later x (from_zero w)) (length-map v (λ (y : ℕ). 2 * y) ∙ six) refl (delay_count x m),
        )

    -- clock 0 is dropped, and added back at or after where it stood
    pub delay_back : Delay d s v
    delay_back =
        let held = extended d s proper (count_at v) 0 f.closed (fine_sound d f) positive (omega arith)
        (λ i j hi hj p q. delay_kept i j hi hj (inr (proper_true j q)))
        (λ i hi p. delay_kept 0 i (omega arith) hi (inl refl)) in
        delay_from (point d s proper (count_at v) 0)
        (λ i j hi hj. held i j hi hj (grind arith) (grind arith))
