-- Clocks put to 0.
use Rattle.std.proofs.Common.{◌≡◌, ℕ, ◌+◌, ◌*◌, ◌<◌, ◌≤◌, Bool, true, false, cond, eqb, List, length, pos, sym, refl, ap, ◌∙◌, subst, le_antisymm, mul-zero, arith}
use lib.ListN.{length-map}
use Rattle.std.proofs.lemmas.Bool.{cond_both, cond-false, eqb-true, eq-eqb}
use Rattle.weight.specs.Limits.{Limit, up_to}
use Rattle.zone_theory.specs.Exact.{Reset}
use Rattle.zone_theory.specs.Matrices.{home, reset_limits}
use Rattle.clocks.specs.Readings.{count_at, times, cleared}
use Rattle.zone_theory.specs.Readings.{Holds, Fine}
use Rattle.zone_theory.proofs.Moves.{holds_times}
use Rattle.zone_theory.proofs.Counts.{same_counts, count_times, count_cleared}
use Rattle.zone_theory.proofs.Obeyed.{obeys_same, zero_obeys}
use Rattle.zone_theory.proofs.Points.{Grown, filled}
use Rattle.zone_theory.proofs.Found.{fine_sound, from_zero, count_from_zero, grown_holds}

pub home_in : (set : ℕ → Bool) (i : ℕ) → i < 7 → home set i < 7
home_in set i h = cond_both (set i) 0 i (λ k. k < 7) (λ e. omega arith) (λ e. h)

pub home_zero : (set : ℕ → Bool) → home set 0 ≡ 0
home_zero set = cond_both (set 0) 0 0 (λ k. k ≡ 0) (λ e. refl) (λ e. refl)

home_home : (set : ℕ → Bool) (i : ℕ) → home set (home set i) ≡ home set i
home_home set i =
    cond_both (set i) 0 i (λ k. home set k ≡ k) (λ e. home_zero set) (λ e. cond-false (set i) 0 i e)

pub reset_fine : (set : ℕ → Bool) (d : ℕ → ℕ → Limit) → Fine d → Fine (reset_limits set d)
reset_fine set d f =
    record {
      closed = λ i k j hi hk hj. f.closed (home set i) (home set k) (home set j) (home_in set i hi) (home_in set k hk) (home_in set j hj);
      flat = λ i h. f.flat (home set i) (home_in set i h);
      rooted = λ i h. rw home_zero (f.rooted (home set i) (home_in set i h));
    }

pub count_home : (set : ℕ → Bool) (u : List ℕ) (i : ℕ) → i < 7 → count_at (cleared set u) i ≡ count_at u (home set i)
count_home set u i h = count_cleared set u i h ∙ by_case (set i)
  where
    by_case : (t : Bool) → cond t 0 (count_at u i) ≡ count_at u (cond t 0 i)
    by_case true = refl
    by_case false = refl

-- a reading with clocks put to 0
pub reset_in : (set : ℕ → Bool) (d : ℕ → ℕ → Limit) (s : ℕ) (v : List ℕ) → Holds d s v → Holds (reset_limits set d) s (cleared set v)
reset_in set d s v h i j hi hj =
    let b = reset_limits set d i j in
    obeys_same b b s (count_at v (home set i)) (count_at v (home set j)) (count_at (cleared set v) i) (count_at (cleared set v) j) refl
    (count_home set v i hi) (count_home set v j hj) (h (home set i) (home set j) (home_in set i hi) (home_in set j hj))

-- a clock that is its own home keeps its count
abbrev stays : (ℕ → Bool) → ℕ → Bool
stays set i = eqb (home set i) i

module _ (set : ℕ → Bool) (d : ℕ → ℕ → Limit) (s : ℕ) (v : List ℕ) (six : length v ≡ 6) where
  pub reset_forth : Reset set d s v → Holds (reset_limits set d) s v
  reset_forth r =
      holds_times (reset_limits set d) r.0 s v r.2 six (subst (Holds (reset_limits set d) (r.0 * s)) (sym r.5) (reset_in set d (r.0 * s) r.1 r.4))

  module _ (f : Fine d) (positive : 1 ≤ s) (holds : Holds (reset_limits set d) s v) where
    -- clocks of one home have one count
    home_most : (i j : ℕ) → i < 7 → j < 7 → home set i ≡ home set j → count_at v i ≤ count_at v j
    home_most i j hi hj e =
        zero_obeys s (count_at v i) (count_at v j)
        (obeys_same (reset_limits set d i j) (up_to (pos 0)) s (count_at v i) (count_at v j) (count_at v i) (count_at v j)
        (sym (ap (λ (k : ℕ). d k (home set j)) e ∙ f.flat (home set j) (home_in set j hj))) refl refl (holds i j hi hj))

    reset_count : (g : Grown d s (stays set) (count_at v) 7) (i : ℕ) → i < 7 → g.many * count_at v i ≡ count_at (from_zero g.counts) (home set i)
    reset_count g i h =
        let kept : (k : ℕ) → home set k ≡ k → g.counts k ≡ g.many * count_at v k + g.lift = λ k e. g.same k (eq-eqb (home set k) k e) in
        let zero-kept : g.counts 0 ≡ g.lift = kept 0 (home_zero set) ∙ rw mul-zero (omega arith) in
        let same : count_at v i ≡ count_at v (home set i) =
        le_antisymm (home_most i (home set i) h (home_in set i h) (sym (home_home set i))) (home_most (home set i) i (home_in set i h) h (home_home set i)) in
        omega (arith, count_from_zero g.counts (home set i) (home_in set i h), kept (home set i) (home_home set i), ap (λ (n : ℕ). g.many * n) same)

    reset_from : Grown d s (stays set) (count_at v) 7 → Reset set d s v
    reset_from g = (
      g.many,
      from_zero g.counts,
      g.positive,
      refl,
      grown_holds d s (stays set) (count_at v) g f positive,
      same_counts (times g.many v) (cleared set (from_zero g.counts)) (length-map v (λ (x : ℕ). g.many * x) ∙ six) refl
          (λ i h. count_times g.many v i six h ∙ reset_count g i h ∙ sym (count_home set (from_zero g.counts) i h)),
    )

    -- the others are added back
    pub reset_back : Reset set d s v
    reset_back =
        reset_from
        (filled d s (stays set) (count_at v) f.closed (fine_sound d f) positive
        (λ i j hi hj p q.
        obeys_same (reset_limits set d i j) (d i j) s (count_at v i) (count_at v j) (count_at v i) (count_at v j)
        (sym (ap (λ (k : ℕ). d k (home set j)) (eqb-true (home set i) i p) ∙ ap (d i) (eqb-true (home set j) j q))) refl refl (holds i j hi hj)))
