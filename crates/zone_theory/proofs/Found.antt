-- A fine matrix has readings, and each limit in it is tight: a reading breaks any limit that it exceeds.
use Rattle.std.proofs.Common.{◌≡◌, ℕ, ◌+◌, ◌-◌, ◌*◌, ◌<◌, ◌≤◌, Bool, true, false, eqb, List, length, pos, neg_ℤ, sym, refl, ap, ◌∙◌, subst, ⊎_elim, mul-le-mul, arith}
use borrow.Author.Differences.{ints, neg_is}
use Rattle.std.proofs.lemmas.Bool.{true≢false, both_ways, cases_eq, cond_both, cond-true, cond-false, eqb-true, eq-eqb, ne_eqb, or_left, or_right}
use Rattle.weight.specs.Limits.{Limit, under, up_to, free, limit_leb, limit_plus}
use Rattle.weight.specs.Weights.{Sound, Beneath}
use Rattle.clocks.specs.Readings.{count_at, listed}
use Rattle.zone_theory.specs.Readings.{Obeys, Meets, Holds, Fine, Readable, Inside, Alike}
use Rattle.zone_theory.specs.Matrices.{tighter}
use Rattle.zone_theory.proofs.Kept.{tighter_left, tighter_right}
use Rattle.weight.specs.Limited.{limit_laws}
use Rattle.zone_theory.proofs.Counts.{count_listed, length_listed}
use Rattle.zone_theory.proofs.Obeyed.{obeys_leb, obeys_same, obeys_self, obeys_part, obeys_shift, obeys_unshift, obeys_zero, zero_obeys}
use Rattle.zone_theory.proofs.Points.{least, least_obeys, least_fits, roof, roof_obeys, with_clock, with_count, joined, Held, Grown, filled, filled_meets}

pub fine_sound : (d : ℕ → ℕ → Limit) → Fine d → Sound limit_leb (up_to (pos 0)) d
fine_sound d f i h = subst (λ x. limit_leb (up_to (pos 0)) x ≡ true) (sym (f.flat i h)) refl

-- counts with clock 0 at 0, as a list
pub meets_listed : (d : ℕ → ℕ → Limit) (s : ℕ) (w : ℕ → ℕ) → w 0 ≡ 0 → Meets d s w → Holds d s (listed w)
meets_listed d s w z m i j hi hj =
    obeys_same (d i j) (d i j) s (w i) (w j) (count_at (listed w) i) (count_at (listed w) j) refl (count_listed w i z hi) (count_listed w j z hj) (m i j hi hj)

-- the counts as they are counted from clock 0
abbrev pub from_zero : (ℕ → ℕ) → List ℕ
from_zero w = listed (λ i. w i - w 0)

pub count_from_zero : (w : ℕ → ℕ) (i : ℕ) → i < 7 → count_at (from_zero w) i ≡ w i - w 0
count_from_zero w i h = count_listed (λ k. w k - w 0) i (omega arith) h

-- no clock is behind clock 0, so all can be counted from it
pub fine_low : (d : ℕ → ℕ → Limit) (s : ℕ) (w : ℕ → ℕ) → Fine d → 1 ≤ s → Meets d s w → (i : ℕ) → i < 7 → w 0 ≤ w i
fine_low d s w f p m i h = zero_obeys s (w 0) (w i) (obeys_leb (d 0 i) (up_to (pos 0)) s (w 0) (w i) p (f.rooted i h) (m 0 i (omega arith) h))

pub grounded : (d : ℕ → ℕ → Limit) (s : ℕ) (w : ℕ → ℕ) → Fine d → 1 ≤ s → Meets d s w → Holds d s (from_zero w)
grounded d s w f p m =
    meets_listed d s (λ i. w i - w 0) (omega arith)
    (λ i j hi hj.
    obeys_unshift (d i j) s (w 0) (w i - w 0) (w j - w 0)
    (obeys_same (d i j) (d i j) s (w i) (w j) (w i - w 0 + w 0) (w j - w 0 + w 0) refl
    (omega (arith, fine_low d s w f p m i hi)) (omega (arith, fine_low d s w f p m j hj)) (m i j hi hj)))

-- grown counts as a reading
pub grown_holds : (d : ℕ → ℕ → Limit) (s : ℕ) (part : ℕ → Bool) (v : ℕ → ℕ) (g : Grown d s part v 7) → Fine d → 1 ≤ s → Holds d (g.many * s) (from_zero g.counts)
grown_holds d s part v g f p = grounded d (g.many * s) g.counts f (mul-le-mul g.positive p) (filled_meets d s part v g)

-- a fine matrix has a reading: all clocks are added to none
pub fine_reading : (d : ℕ → ℕ → Limit) → Fine d → Readable d
fine_reading d f =
    let none : ℕ → Bool = λ i. false in
    let g : Grown d 1 none (λ i. 0) 7 = filled d 1 none (λ i. 0) f.closed (fine_sound d f) (omega arith) (λ i j hi hj p q. absurd (true≢false (sym p))) in
    (g.many * 1, from_zero g.counts, omega (arith, g.positive), length_listed (λ k. g.counts k - g.counts 0), grown_holds d 1 none (λ i. 0) g f (omega arith))

-- what a difference obeys that breaks a limit
abbrev beyond : Limit → Limit
beyond (under z) = up_to (neg_ℤ z)
beyond (up_to z) = under (neg_ℤ z)
beyond free = free

beyond_fits : (b c : Limit) → limit_leb b c ≡ false → limit_leb (up_to (pos 0)) (limit_plus (beyond c) b) ≡ true
beyond_fits b c h = grind (arith, ints)

beyond_breaks : (b c : Limit) (s x y : ℕ) → limit_leb b c ≡ false → Obeys (beyond c) s y x → Obeys c s x y → ⊥
beyond_breaks b (under z) s x y h o q = omega (arith, ap (λ (n : ℕ). n * s) (neg_is z).0, ap (λ (n : ℕ). n * s) (neg_is z).1)
beyond_breaks b (up_to z) s x y h o q = omega (arith, ap (λ (n : ℕ). n * s) (neg_is z).0, ap (λ (n : ℕ). n * s) (neg_is z).1)
beyond_breaks b free s x y h o q = both_ways (limit_leb b free) h (limit_laws.top b)

-- what the grown counts obey on the part, so do the counts that they grew from
grown_count : (d : ℕ → ℕ → Limit) (s : ℕ) (part : ℕ → Bool) (v : ℕ → ℕ) (g : Grown d s part v 7) → Fine d → 1 ≤ s
    → (i : ℕ) → i < 7 → part i ≡ true → g.many * v i + g.lift ≡ count_at (from_zero g.counts) i + g.counts 0
grown_count d s part v g f p i h e =
    omega (arith, count_from_zero g.counts i h, fine_low d (g.many * s) g.counts f (mul-le-mul g.positive p) (filled_meets d s part v g) i h, g.same i e)

ungrown : (d : ℕ → ℕ → Limit) (s : ℕ) (part : ℕ → Bool) (v : ℕ → ℕ) (g : Grown d s part v 7) → Fine d → 1 ≤ s
    → (i j : ℕ) → i < 7 → j < 7 → part i ≡ true → part j ≡ true → (c : Limit)
    → Obeys c (g.many * s) (count_at (from_zero g.counts) i) (count_at (from_zero g.counts) j) → Obeys c s (v i) (v j)
ungrown d s part v g f p i j hi hj pi pj c o =
    let u = count_at (from_zero g.counts) in
    let z = g.counts 0 in
    obeys_part c g.many s (v i) (v j) g.positive
    (obeys_unshift c (g.many * s) g.lift (g.many * v i) (g.many * v j)
    (obeys_same c c (g.many * s) (u i + z) (u j + z) (g.many * v i + g.lift) (g.many * v j + g.lift) refl
    (grown_count d s part v g f p i hi pi) (grown_count d s part v g f p j hj pj) (obeys_shift c (g.many * s) z (u i) (u j) o)))

-- a reading of d that breaks the limit c on clock i less clock j
abbrev pub Breaks : (ℕ → ℕ → Limit) → ℕ → ℕ → Limit → Type 0
Breaks d i j c = (s : ℕ) × (v : List ℕ) × (1 ≤ s) × (length v ≡ 6) × Holds d s v × (Obeys c s (count_at v i) (count_at v j) → ⊥)

-- how far clock j has to be behind clock i to break c, a count of clock j, and the least count of clock i at twice the scale
abbrev edge : (ℕ → ℕ → Limit) → ℕ → ℕ → Limit → Limit
edge d i j c = tighter (d j i) (beyond c)

abbrev near_count : (ℕ → ℕ → Limit) → ℕ → ℕ → ℕ
near_count d i j = roof (d i j) 1

abbrev far_count : (ℕ → ℕ → Limit) → ℕ → ℕ → Limit → ℕ
far_count d i j c = least (edge d i j c) 1 (near_count d i j)

-- clocks i and j, and their counts
abbrev pair : ℕ → ℕ → ℕ → Bool
pair i j = with_clock (λ k. eqb k j) i

abbrev pair_counts : (ℕ → ℕ → Limit) → ℕ → ℕ → Limit → ℕ → ℕ
pair_counts d i j c = with_count (λ k. near_count d i j) i (far_count d i j c)

module _ (d : ℕ → ℕ → Limit) (f : Fine d) (i j : ℕ) (hi : i < 7) (hj : j < 7) (c : Limit) (above : limit_leb (d i j) c ≡ false) where
  -- there and back again is no way below zero
  round : limit_leb (up_to (pos 0)) (limit_plus (edge d i j c) (d i j)) ≡ true
  round =
      cond_both (limit_leb (d j i) (beyond c)) (d j i) (beyond c) (λ y. limit_leb (up_to (pos 0)) (limit_plus y (d i j)) ≡ true)
      (λ _. subst (λ y. limit_leb y (limit_plus (d j i) (d i j)) ≡ true) (f.flat j hj) (f.closed j i j hj hi hj))
      (λ _. beyond_fits (d i j) c above)

  far : Obeys (edge d i j c) (2 * 1) (2 * near_count d i j) (far_count d i j c)
  far = least_obeys (edge d i j c) 1 (near_count d i j) (far_count d i j c) (omega arith)

  near : Obeys (d i j) (2 * 1) (far_count d i j c) (2 * near_count d i j)
  near =
      let n = near_count d i j in
      least_fits (edge d i j c) (d i j) 1 n n
      (obeys_leb (up_to (pos 0)) (limit_plus (edge d i j c) (d i j)) 1 n n (omega arith) round (obeys_zero 1 n n (omega arith)))
      (roof_obeys (d i j) 1 n (omega arith))

  pair_held : Held d (2 * 1) (pair i j) (pair_counts d i j c)
  pair_held =
      let n = near_count d i j in
      let x = far_count d i j c in
      joined d 1 (λ k. eqb k j) (λ k. n) i x (omega arith) (fine_sound d f i hi)
      (λ k l hk hl p q.
      obeys_same (up_to (pos 0)) (d k l) 1 n n n n (ap (λ (m : ℕ). d m l) (eqb-true k j p) ∙ ap (d j) (eqb-true l j q) ∙ f.flat j hj) refl refl (obeys_zero 1 n n (omega arith)))
      (λ k hk p.
      obeys_leb (edge d i j c) (d k i) (2 * 1) (2 * n) x (omega arith)
      (subst (λ m. limit_leb (edge d i j c) (d m i) ≡ true) (sym (eqb-true k j p)) (tighter_left (d j i) (beyond c))) far)
      (λ k hk p. subst (λ m. Obeys (d i m) (2 * 1) x (2 * n)) (sym (eqb-true k j p)) near)

  pair_breaks : (i ≡ j → ⊥) → Obeys c (2 * 1) (pair_counts d i j c i) (pair_counts d i j c j) → ⊥
  pair_breaks ne o =
      let n = near_count d i j in
      let x = far_count d i j c in
      beyond_breaks (d i j) c (2 * 1) x (2 * n) above (obeys_leb (edge d i j c) (beyond c) (2 * 1) (2 * n) x (omega arith) (tighter_right (d j i) (beyond c)) far)
      (obeys_same c c (2 * 1) (pair_counts d i j c i) (pair_counts d i j c j) x (2 * n) refl
      (sym (cond-true (eqb i i) x (2 * n) (eq-eqb i i refl))) (sym (cond-false (eqb j i) x (2 * n) (ne_eqb j i (λ q. ne (sym q))))) o)

  -- two clocks as far apart as d allows and c does not; then the others are added
  broken_apart : (i ≡ j → ⊥) → Grown d (2 * 1) (pair i j) (pair_counts d i j c) 7 → Breaks d i j c
  broken_apart ne g =
      let one : 1 ≤ 2 * 1 = omega arith in
      let w = pair_counts d i j c in (
        g.many * (2 * 1),
        from_zero g.counts,
        mul-le-mul g.positive one,
        length_listed (λ k. g.counts k - g.counts 0),
        grown_holds d (2 * 1) (pair i j) w g f one,
        λ o.
            pair_breaks ne
            (ungrown d (2 * 1) (pair i j) w g f one i j hi hj (or_left (eqb i i) (eqb i j) (eq-eqb i i refl)) (or_right (eqb j i) (eqb j j) (eq-eqb j j refl)) c o),
      )

  -- a clock against itself
  broken_same : i ≡ j → Breaks d i j c
  broken_same e =
      let r = fine_reading d f in
      let x = count_at r.1 i in
      let low : Obeys c r.0 x (count_at r.1 j) → limit_leb (d i j) c ≡ true = λ o.
      rw (sym e, f.flat i hi) (obeys_self c r.0 x r.2 (subst (λ k. Obeys c r.0 x (count_at r.1 k)) (sym e) o)) in
      (r.0, r.1, r.2, r.3, r.4, λ o. both_ways (limit_leb (d i j) c) above (low o))

  pub broken : Breaks d i j c
  broken =
      ⊎_elim broken_same
      (λ ne. broken_apart ne (filled d (2 * 1) (pair i j) (pair_counts d i j c) f.closed (fine_sound d f) (omega arith) pair_held)) (cases_eq i j)

-- so the order of fine matrices is the order of their sets of readings
pub within_back : (d e : ℕ → ℕ → Limit) → Fine d → Inside d e → Beneath limit_leb d e
within_back d e f all i j hi hj = within_by (limit_leb (d i j) (e i j)) refl
  where
    within_by : (t : Bool) → limit_leb (d i j) (e i j) ≡ t → limit_leb (d i j) (e i j) ≡ true
    within_by true p = p
    within_by false p =
        let b = broken d f i j hi hj (e i j) p in
        absurd (b.5 (all b.0 b.1 b.2 b.3 b.4 i j hi hj))

pub same_readings : (d e : ℕ → ℕ → Limit) → Fine d → Fine e → Alike d e → (i j : ℕ) → i < 7 → j < 7 → d i j ≡ e i j
same_readings d e f g all i j hi hj =
    limit_laws.anti (d i j) (e i j) (within_back d e f (λ s v p l. (all s v p l).0) i j hi hj) (within_back e d g (λ s v p l. (all s v p l).1) i j hi hj)
