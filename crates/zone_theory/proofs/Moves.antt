-- A finer scale, one more limit, and the matrices to start from.
use Rattle.std.proofs.Common.{◌≡◌, ℕ, ◌*◌, ◌<◌, ◌≤◌, true, ◌&&◌, ◌||◌, eqb, List, length, pos, sym, refl, ap, subst, arith}
use Rattle.std.proofs.lemmas.Bool.{cond_both, cond-true, eqb-true, eq-eqb, or_right, and_parts, and_from}
use Rattle.weight.specs.Limits.{Limit, under, up_to, free, limit_leb}
use Rattle.weight.specs.Weights.{Beneath, step}
use Rattle.zone_theory.specs.Exact.{Falls}
use Rattle.zone_theory.specs.Matrices.{tighter, tightened, empty_limits, cut_limits, zero_limits, all_limits}
use Rattle.clocks.specs.Readings.{count_at, times, zero_reading}
use Rattle.zone_theory.specs.Readings.{Obeys, Meets, Holds, Fine, Vacant}
use Rattle.weight.proofs.Passes.{falling}
use Rattle.weight.specs.Limited.{limit_laws}
use Rattle.zone_theory.proofs.Counts.{count_listed, same_counts, count_times}
use Rattle.zone_theory.proofs.Kept.{tighter_left, tighter_right, obeys_tighter, beneath_meets, tightened_meets}
use Rattle.zone_theory.proofs.Obeyed.{obeys_leb, obeys_same, obeys_part, obeys_times, obeys_zero, zero_obeys}

-- a finer scale
pub times_holds : (d : ℕ → ℕ → Limit) (k s : ℕ) (v : List ℕ) → 1 ≤ k → length v ≡ 6 → Holds d s v → Holds d (k * s) (times k v)
times_holds d k s v p l h i j hi hj =
    obeys_same (d i j) (d i j) (k * s) (k * count_at v i) (k * count_at v j) (count_at (times k v) i) (count_at (times k v) j) refl
    (count_times k v i l hi) (count_times k v j l hj) (obeys_times (d i j) k s (count_at v i) (count_at v j) p (h i j hi hj))

pub holds_times : (d : ℕ → ℕ → Limit) (k s : ℕ) (v : List ℕ) → 1 ≤ k → length v ≡ 6 → Holds d (k * s) (times k v) → Holds d s v
holds_times d k s v p l h i j hi hj =
    obeys_part (d i j) k s (count_at v i) (count_at v j) p
    (obeys_same (d i j) (d i j) (k * s) (count_at (times k v) i) (count_at (times k v) j) (k * count_at v i) (k * count_at v j) refl
    (sym (count_times k v i l hi)) (sym (count_times k v j l hj)) (h i j hi hj))

-- one more limit
module _ (d : ℕ → ℕ → Limit) (i j : ℕ) (b : Limit) where
  pub cut_beneath : Beneath limit_leb (cut_limits d i j b) d
  cut_beneath p q hp hq =
      cond_both (eqb p i && eqb q j) (tighter (d p q) b) (d p q) (λ x. limit_leb x (d p q) ≡ true)
      (λ e. tighter_left (d p q) b) (λ e. limit_laws.self (d p q))

  pub cut_low : limit_leb (cut_limits d i j b i j) b ≡ true
  cut_low =
      subst (λ x. limit_leb x b ≡ true)
      (sym (cond-true (eqb i i && eqb j j) (tighter (d i j) b) (d i j) (and_from (eqb i i) (eqb j j) (eq-eqb i i refl) (eq-eqb j j refl))))
      (tighter_right (d i j) b)

  pub cut_forth : (s : ℕ) (w : ℕ → ℕ) → Meets d s w → Obeys b s (w i) (w j) → Meets (cut_limits d i j b) s w
  cut_forth s w m o p q hp hq =
      cond_both (eqb p i && eqb q j) (tighter (d p q) b) (d p q) (λ x. Obeys x s (w p) (w q))
      (λ e.
      let at = and_parts (eqb p i) (eqb q j) e in
      obeys_tighter (d p q) b s (w p) (w q) (m p q hp hq)
      (obeys_same b b s (w i) (w j) (w p) (w q) refl (ap w (eqb-true p i at.0)) (ap w (eqb-true q j at.1)) o))
      (λ e. m p q hp hq)

  pub cut_back : (s : ℕ) (w : ℕ → ℕ) → 1 ≤ s → i < 7 → j < 7 → Meets (cut_limits d i j b) s w → Meets d s w × Obeys b s (w i) (w j)
  cut_back s w p hi hj m =
      (beneath_meets (cut_limits d i j b) d s w p cut_beneath m, obeys_leb (cut_limits d i j b i j) b s (w i) (w j) p cut_low (m i j hi hj))

-- the matrices to start from
pub zero_fine : Fine zero_limits
zero_fine = record { closed = λ i k j hi hk hj. refl; flat = λ i h. refl; rooted = λ i h. refl }

count_zero : (i : ℕ) → i < 7 → count_at zero_reading i ≡ 0
count_zero i h = count_listed (λ k. 0) i refl h

pub zero_back : (s : ℕ) (v : List ℕ) → length v ≡ 6 → Holds zero_limits s v → v ≡ zero_reading
zero_back s v six h =
    same_counts v zero_reading six refl (λ i hi. let low : count_at v i ≤ 0 = zero_obeys s (count_at v i) 0 (h i 0 hi (omega arith)) in omega (arith, count_zero i hi))

pub zero_forth : (s : ℕ) → Holds zero_limits s zero_reading
zero_forth s i j hi hj = obeys_zero s (count_at zero_reading i) (count_at zero_reading j) (omega (arith, count_zero i hi))

pub all_fine : Fine all_limits
all_fine =
    record {
      closed = λ i k j hi hk hj. grind arith;
      flat = λ i h. cond-true (eqb i 0 || eqb i i) (up_to (pos 0)) free (or_right (eqb i 0) (eqb i i) (eq-eqb i i refl));
      rooted = λ i h. refl;
    }

pub all_forth : (s : ℕ) (v : List ℕ) → Holds all_limits s v
all_forth s v = tightened_meets (λ i j. free) s (count_at v) refl (λ i j hi hj. tt)

-- the matrix of no reading
pub empty_falls : Falls empty_limits
empty_falls = falling limit_laws (tightened empty_limits) 0 (under (pos 0)) (omega arith) (step 0 0 (omega arith) (omega arith)) refl

pub empty_vacant : Vacant empty_limits
empty_vacant s v p h = omega (arith, h 0 0 (omega arith) (omega arith))
