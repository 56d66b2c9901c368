-- Tightening and closing keep the readings.
use Rattle.std.proofs.Common.{◌≡◌, ℕ, ◌<◌, ◌≤◌, true, ◌||◌, eqb, pos, sym, refl, ap, ◌∙◌, subst, ⊎_elim, arith}
use mathlib.Core.Path.{subst₃}
use Rattle.std.proofs.lemmas.Bool.{both_ways, cond_both, cond-true, eqb-true, eq-eqb, or_cases, or_right}
use Rattle.weight.specs.Limits.{Limit, up_to, limit_leb, limit_plus}
use Rattle.weight.specs.Weights.{Beneath, Way, step, join, ClosedForm, Falling}
use Rattle.zone_theory.specs.Readings.{Obeys, Meets, Fine}
use Rattle.zone_theory.specs.Matrices.{tighter, tightened}
use Rattle.weight.specs.Limited.{limit_laws}
use Rattle.zone_theory.proofs.LimitLaws.{limit_flip}
use Rattle.zone_theory.proofs.Obeyed.{obeys_leb, obeys_plus, obeys_self, obeys_zero}

-- the tighter limit is at or below both, and obeyed where both are
pub tighter_left : (a b : Limit) → limit_leb (tighter a b) a ≡ true
tighter_left a b = cond_both (limit_leb a b) a b (λ x. limit_leb x a ≡ true) (λ e. limit_laws.self a) (λ e. limit_flip a b e)

pub tighter_right : (a b : Limit) → limit_leb (tighter a b) b ≡ true
tighter_right a b = cond_both (limit_leb a b) a b (λ x. limit_leb x b ≡ true) (λ e. e) (λ e. limit_laws.self b)

pub obeys_tighter : (a b : Limit) (s x y : ℕ) → Obeys a s x y → Obeys b s x y → Obeys (tighter a b) s x y
obeys_tighter a b s x y o q = cond_both (limit_leb a b) a b (λ c. Obeys c s x y) (λ e. o) (λ e. q)

-- a matrix with the same entries on the seven clocks
module _ (d e : ℕ → ℕ → Limit) (same : (i j : ℕ) → i < 7 → j < 7 → d i j ≡ e i j) where
  pub same_meets : (s : ℕ) (w : ℕ → ℕ) → Meets d s w → Meets e s w
  same_meets s w m i j hi hj = subst (λ b. Obeys b s (w i) (w j)) (same i j hi hj) (m i j hi hj)

  pub same_fine : Fine d → Fine e
  same_fine f =
      record {
        closed = λ i k j hi hk hj.
            subst₃ (λ a b c. limit_leb a (limit_plus b c) ≡ true) (same i j hi hj) (same i k hi hk) (same k j hk hj) (f.closed i k j hi hk hj);
        flat = λ i h. sym (same i i h h) ∙ f.flat i h;
        rooted = λ i h. subst (λ b. limit_leb b (up_to (pos 0)) ≡ true) (same 0 i (omega arith) h) (f.rooted i h);
      }

-- a matrix at or below another has no more readings
pub beneath_meets : (d e : ℕ → ℕ → Limit) (s : ℕ) (w : ℕ → ℕ) → 1 ≤ s → Beneath limit_leb d e → Meets d s w → Meets e s w
beneath_meets d e s w p b m i j hi hj = obeys_leb (d i j) (e i j) s (w i) (w j) p (b i j hi hj) (m i j hi hj)

pub tightened_beneath : (d : ℕ → ℕ → Limit) → Beneath limit_leb (tightened d) d
tightened_beneath d i j hi hj =
    cond_both (eqb i 0 || eqb i j) (tighter (d i j) (up_to (pos 0))) (d i j) (λ x. limit_leb x (d i j) ≡ true)
    (λ e. tighter_left (d i j) (up_to (pos 0))) (λ e. limit_laws.self (d i j))

tight_count : (w : ℕ → ℕ) (i j : ℕ) → w 0 ≡ 0 → (eqb i 0 || eqb i j) ≡ true → w i ≤ w j
tight_count w i j z e =
    ⊎_elim (λ (p : eqb i 0 ≡ true). omega (arith, ap w (eqb-true i 0 p), z)) (λ (p : eqb i j ≡ true). omega (arith, ap w (eqb-true i j p)))
    (or_cases (eqb i 0) (eqb i j) e)

pub tightened_meets : (d : ℕ → ℕ → Limit) (s : ℕ) (w : ℕ → ℕ) → w 0 ≡ 0 → Meets d s w → Meets (tightened d) s w
tightened_meets d s w z m i j hi hj =
    cond_both (eqb i 0 || eqb i j) (tighter (d i j) (up_to (pos 0))) (d i j) (λ x. Obeys x s (w i) (w j))
    (λ e. obeys_tighter (d i j) (up_to (pos 0)) s (w i) (w j) (m i j hi hj) (obeys_zero s (w i) (w j) (tight_count w i j z e)))
    (λ e. m i j hi hj)

-- along a way the difference obeys the sum
pub way_obeys : (d : ℕ → ℕ → Limit) (s : ℕ) (w : ℕ → ℕ) → Meets d s w → {i j : ℕ} {x : Limit} → Way limit_plus d i j x → Obeys x s (w i) (w j)
way_obeys d s w m (step i j hi hj) = m i j hi hj
way_obeys d s w m (join i k j y z hk p q) = obeys_plus y z s (w i) (w k) (w j) (way_obeys d s w m p) (way_obeys d s w m q)

-- the closed form has the readings of what it is the closed form of
module _ (old new : ℕ → ℕ → Limit) (form : ClosedForm limit_leb limit_plus (up_to (pos 0)) old new) where
  pub closing_forth : (s : ℕ) (w : ℕ → ℕ) → Meets old s w → Meets new s w
  closing_forth s w m i j hi hj = way_obeys old s w m (form.ways i j hi hj)

  pub closing_back : (s : ℕ) (w : ℕ → ℕ) → 1 ≤ s → Meets new s w → Meets old s w
  closing_back s w p m = beneath_meets new old s w p form.beneath m

-- a matrix with a falling way has none
pub falling_none : (d : ℕ → ℕ → Limit) → Falling limit_leb limit_plus (up_to (pos 0)) d → (s : ℕ) (w : ℕ → ℕ) → 1 ≤ s → Meets d s w → ⊥
falling_none d f s w p m =
    both_ways (limit_leb (up_to (pos 0)) f.weight) f.less
    (obeys_self f.weight s (w f.place) p (way_obeys d s w m f.way))

tightened_low : (d : ℕ → ℕ → Limit) (i j : ℕ) → (eqb i 0 || eqb i j) ≡ true → limit_leb (tightened d i j) (up_to (pos 0)) ≡ true
tightened_low d i j e =
    subst (λ x. limit_leb x (up_to (pos 0)) ≡ true) (sym (cond-true (eqb i 0 || eqb i j) (tighter (d i j) (up_to (pos 0))) (d i j) e))
    (tighter_right (d i j) (up_to (pos 0)))

-- the closed form of a tightened matrix is fine
pub closing_fine : (d new : ℕ → ℕ → Limit) → ClosedForm limit_leb limit_plus (up_to (pos 0)) (tightened d) new → Fine new
closing_fine d new form =
    record {
      closed = form.closed;
      flat = λ i h.
          limit_laws.anti (new i i) (up_to (pos 0))
          (limit_laws.trans (new i i) (tightened d i i) (up_to (pos 0)) (form.beneath i i h h) (tightened_low d i i (or_right (eqb i 0) (eqb i i) (eq-eqb i i refl))))
          (form.sound i h);
      rooted = λ i h.
          limit_laws.trans (new 0 i) (tightened d 0 i) (up_to (pos 0)) (form.beneath 0 i (omega arith) h) (tightened_low d 0 i refl);
    }

-- and a fine matrix is tight already
pub fine_tight : (d : ℕ → ℕ → Limit) → Fine d → (i j : ℕ) → i < 7 → j < 7 → d i j ≡ tightened d i j
fine_tight d f i j hi hj =
    cond_both (eqb i 0 || eqb i j) (tighter (d i j) (up_to (pos 0))) (d i j) (λ x. d i j ≡ x)
    (λ e.
    sym
    (cond-true (limit_leb (d i j) (up_to (pos 0))) (d i j) (up_to (pos 0))
    (⊎_elim
    (λ (p : eqb i 0 ≡ true). subst (λ k. limit_leb (d k j) (up_to (pos 0)) ≡ true) (sym (eqb-true i 0 p)) (f.rooted j hj))
    (λ (p : eqb i j ≡ true). subst (λ x. limit_leb x (up_to (pos 0)) ≡ true) (sym (ap (d i) (sym (eqb-true i j p)) ∙ f.flat i hi)) refl)
    (or_cases (eqb i 0) (eqb i j) e))))
    (λ e. refl)
