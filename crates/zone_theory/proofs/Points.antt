-- One more node: counts that obey a closed matrix on a part of the clocks extend to one more clock at twice the scale,
-- and so to all of them at some multiple of the scale.
use Rattle.std.proofs.Common.{◌≡◌, ℕ, zero, suc, ◌+◌, ◌-◌, ◌*◌, ◌<◌, ◌≤◌, max, Bool, true, false, cond, ◌||◌, eqb, ltb, ◌⊎◌, pos, sym, refl, ap, ◌∙◌, inl, inr, ⊎_elim, mul-le-mul, one-mul, arith}
use borrow.Author.Differences.{up, down}
use Rattle.std.proofs.lemmas.Bool.{both_ways, cond_both, cond-true, cond-false, eqb-true, eq-eqb, or_cases, or_left, or_right, cases_lt, cases_eq, lt-ltb, ne_eqb}
use Rattle.std.proofs.lemmas.Bool.Decides.{nat_tests}
use Rattle.weight.specs.Limits.{Limit, under, up_to, free, limit_leb, limit_plus}
use Rattle.weight.specs.Weights.{Closed, Sound}
use Rattle.zone_theory.specs.Readings.{Obeys, Meets}
use Rattle.zone_theory.proofs.Obeyed.{sum_scaled, obeys_leb, obeys_times, obeys_shift, obeys_zero, obeys_same}

-- the least count y such that, at twice the scale, 2 * x less y obeys the limit. Doubled, a strict limit leaves room for a whole count.
abbrev pub least : Limit → ℕ → ℕ → ℕ
least (under z) s x = (2 * (x + down z * s) + 1) - 2 * (up z * s)
least (up_to z) s x = 2 * (x + down z * s) - 2 * (up z * s)
least free s x = 0

pub least_obeys : (b : Limit) (s x y : ℕ) → least b s x ≤ y → Obeys b (2 * s) (2 * x) y
least_obeys (under z) s x y h = omega arith
least_obeys (up_to z) s x y h = omega arith
least_obeys free s x y h = tt

-- where the two limits together allow x less y, the least count meets the second
pub least_fits : (b c : Limit) (s x y : ℕ) → Obeys (limit_plus b c) s x y → Obeys c s 0 y → Obeys c (2 * s) (least b s x) (2 * y)
least_fits (under a) (under b) s x y o q = omega (arith, sum_scaled a b s)
least_fits (under a) (up_to b) s x y o q = omega (arith, sum_scaled a b s)
least_fits (under a) free s x y o q = tt
least_fits (up_to a) (under b) s x y o q = omega (arith, sum_scaled a b s)
least_fits (up_to a) (up_to b) s x y o q = omega (arith, sum_scaled a b s)
least_fits (up_to a) free s x y o q = tt
least_fits free (under b) s x y o q = omega arith
least_fits free (up_to b) s x y o q = omega arith
least_fits free free s x y o q = tt

-- the greatest f k of the clocks k below n in a part
abbrev pub top : (ℕ → Bool) → (ℕ → ℕ) → ℕ → ℕ
top part f zero = 0
top part f (suc k) = max (cond (part k) (f k) 0) (top part f k)

top_bound : (part : ℕ → Bool) (f : ℕ → ℕ) (n k : ℕ) → k < n → part k ≡ true → f k ≤ top part f n
top_bound part f zero k h e = absurd (omega arith)
top_bound part f (suc n) k h e =
    ⊎_elim
    (λ (p : k < n). omega (arith, top_bound part f n k p e))
    (λ (p : n ≤ k).
    let same : n ≡ k = omega arith in
    let here : cond (part n) (f n) 0 ≡ f k = ap (λ (m : ℕ). cond (part m) (f m) 0) same ∙ cond-true (part k) (f k) 0 e in omega arith)
    (cases_lt k n)

-- what holds of 0 and of each holds of the greatest
max_either : (P : ℕ → Type 0) (a b : ℕ) → P a → P b → P (max a b)
max_either P a b p q =
    ⊎_elim (λ (h : a < b). let e : max a b ≡ b = omega arith in rw e q) (λ (h : b ≤ a). let e : max a b ≡ a = omega arith in rw e p) (cases_lt a b)

top_all : (P : ℕ → Type 0) (part : ℕ → Bool) (f : ℕ → ℕ) (n : ℕ) → P 0 → ((k : ℕ) → k < n → part k ≡ true → P (f k)) → P (top part f n)
top_all P part f zero z each = z
top_all P part f (suc n) z each =
    max_either P (cond (part n) (f n) 0) (top part f n)
    (cond_both (part n) (f n) 0 P (λ e. each n (omega arith) e) (λ e. z))
    (top_all P part f n z (λ k h e. each k (omega arith) e))

-- the counts v obey the limits among the clocks of a part
abbrev pub Held : (ℕ → ℕ → Limit) → ℕ → (ℕ → Bool) → (ℕ → ℕ) → Type 0
Held d s part v = (i j : ℕ) → i < 7 → j < 7 → part i ≡ true → part j ≡ true → Obeys (d i j) s (v i) (v j)

-- a part and clock n
abbrev pub with_clock : (ℕ → Bool) → ℕ → ℕ → Bool
with_clock part n i = eqb i n || part i

-- twice the counts, and x at clock n
abbrev pub with_count : (ℕ → ℕ) → ℕ → ℕ → ℕ → ℕ
with_count v n x i = cond (eqb i n) x (2 * v i)

-- the count of the new clock: the greatest of the least that its limits allow
abbrev pub point : (ℕ → ℕ → Limit) → ℕ → (ℕ → Bool) → (ℕ → ℕ) → ℕ → ℕ
point d s part v n = top part (λ j. least (d j n) s (v j)) 7

placed : (part : ℕ → Bool) (v : ℕ → ℕ) (n x i : ℕ) (t : Bool) → eqb i n ≡ t → with_clock part n i ≡ true
    → ((i ≡ n) × (with_count v n x i ≡ x)) ⊎ ((part i ≡ true) × (with_count v n x i ≡ 2 * v i))
placed part v n x i true e p = inl (eqb-true i n e, cond-true (eqb i n) x (2 * v i) e)
placed part v n x i false e p =
    inr (
      ⊎_elim (λ (q : eqb i n ≡ true). absurd (both_ways (eqb i n) e q)) (λ (q : part i ≡ true). q) (or_cases (eqb i n) (part i) p),
      cond-false (eqb i n) x (2 * v i) e,
    )

-- a count x of clock n that obeys the limits against the part
module _ (d : ℕ → ℕ → Limit) (s : ℕ) (part : ℕ → Bool) (v : ℕ → ℕ) (n x : ℕ)
    (positive : 1 ≤ s) (sound : limit_leb (up_to (pos 0)) (d n n) ≡ true)
    (held : Held d s part v)
    (low : (j : ℕ) → j < 7 → part j ≡ true → Obeys (d j n) (2 * s) (2 * v j) x)
    (high : (j : ℕ) → j < 7 → part j ≡ true → Obeys (d n j) (2 * s) x (2 * v j)) where
  pub joined : Held d (2 * s) (with_clock part n) (with_count v n x)
  joined i j hi hj pi pj =
      let w = with_count v n x in
      ⊎_elim
      (λ (a : (i ≡ n) × (w i ≡ x)).
      ⊎_elim
      (λ (b : (j ≡ n) × (w j ≡ x)).
      obeys_same (d n n) (d i j) (2 * s) x x (w i) (w j) (ap (λ (k : ℕ). d k j) a.0 ∙ ap (d n) b.0) a.1 b.1
      (obeys_leb (up_to (pos 0)) (d n n) (2 * s) x x (omega arith) sound (obeys_zero (2 * s) x x (omega arith))))
      (λ (b : (part j ≡ true) × (w j ≡ 2 * v j)).
      obeys_same (d n j) (d i j) (2 * s) x (2 * v j) (w i) (w j) (ap (λ (k : ℕ). d k j) a.0) a.1 b.1 (high j hj b.0))
      (placed part v n x j (eqb j n) refl pj))
      (λ (a : (part i ≡ true) × (w i ≡ 2 * v i)).
      ⊎_elim
      (λ (b : (j ≡ n) × (w j ≡ x)).
      obeys_same (d i n) (d i j) (2 * s) (2 * v i) x (w i) (w j) (ap (d i) b.0) a.1 b.1 (low i hi a.0))
      (λ (b : (part j ≡ true) × (w j ≡ 2 * v j)).
      obeys_same (d i j) (d i j) (2 * s) (2 * v i) (2 * v j) (w i) (w j) refl a.1 b.1
      (obeys_times (d i j) 2 s (v i) (v j) (omega arith) (held i j hi hj a.0 b.0)))
      (placed part v n x j (eqb j n) refl pj))
      (placed part v n x i (eqb i n) refl pi)

-- in a closed matrix the greatest of the least is such a count
module _ (d : ℕ → ℕ → Limit) (s : ℕ) (part : ℕ → Bool) (v : ℕ → ℕ) (n : ℕ)
    (closed : Closed limit_leb limit_plus d) (sound : Sound limit_leb (up_to (pos 0)) d) (positive : 1 ≤ s) (inside : n < 7)
    (held : Held d s part v)
    (floor : (i : ℕ) → i < 7 → part i ≡ true → Obeys (d n i) s 0 (v i)) where
  point_low : (j : ℕ) → j < 7 → part j ≡ true → Obeys (d j n) (2 * s) (2 * v j) (point d s part v n)
  point_low j h e = least_obeys (d j n) s (v j) (point d s part v n) (top_bound part (λ k. least (d k n) s (v k)) 7 j h e)

  point_high : (j : ℕ) → j < 7 → part j ≡ true → Obeys (d n j) (2 * s) (point d s part v n) (2 * v j)
  point_high j h e =
      top_all (λ x. Obeys (d n j) (2 * s) x (2 * v j)) part (λ k. least (d k n) s (v k)) 7
      (obeys_times (d n j) 2 s 0 (v j) (omega arith) (floor j h e))
      (λ k hk ek.
      least_fits (d k n) (d n j) s (v k) (v j)
      (obeys_leb (d k j) (limit_plus (d k n) (d n j)) s (v k) (v j) positive (closed k n j hk inside h) (held k j hk h ek e))
      (floor j h e))

  pub extended : Held d (2 * s) (with_clock part n) (with_count v n (point d s part v n))
  extended = joined d s part v n (point d s part v n) positive (sound n inside) held point_low point_high

-- a count from which on the limit is no bound from below
abbrev pub roof : Limit → ℕ → ℕ
roof (under z) s = down z * s + 1
roof (up_to z) s = down z * s
roof free s = 0

pub roof_obeys : (b : Limit) (s y : ℕ) → roof b s ≤ y → Obeys b s 0 y
roof_obeys (under z) s y h = omega arith
roof_obeys (up_to z) s y h = omega arith
roof_obeys free s y h = tt

-- a shift of the counts after which the limits of clock n bound nothing from below
abbrev shift : (ℕ → ℕ → Limit) → ℕ → ℕ → ℕ
shift d s n = top (λ i. true) (λ i. roof (d n i) s) 7

abbrev shifted : (ℕ → ℕ) → ℕ → ℕ → ℕ
shifted v m i = v i + m

-- so any counts extend after a shift
extended_shifted : (d : ℕ → ℕ → Limit) (s : ℕ) (part : ℕ → Bool) (v : ℕ → ℕ) (n : ℕ)
    → Closed limit_leb limit_plus d → Sound limit_leb (up_to (pos 0)) d → 1 ≤ s → n < 7 → Held d s part v
    → Held d (2 * s) (with_clock part n) (with_count (shifted v (shift d s n)) n (point d s part (shifted v (shift d s n)) n))
extended_shifted d s part v n closed sound positive h held =
    extended d s part (shifted v (shift d s n)) n closed sound positive h
    (λ i j hi hj p q. obeys_shift (d i j) s (shift d s n) (v i) (v j) (held i j hi hj p q))
    (λ i hi p.
    let high : roof (d n i) s ≤ shift d s n = top_bound (λ j. true) (λ j. roof (d n j) s) 7 i hi refl in
    roof_obeys (d n i) s (shifted v (shift d s n) i) (omega arith))

-- a part and the clocks below k
abbrev pub with_below : (ℕ → Bool) → ℕ → ℕ → Bool
with_below part k i = part i || ltb i k

below_none : (part : ℕ → Bool) (i : ℕ) → with_below part 0 i ≡ true → part i ≡ true
below_none part i e = grind (arith, nat_tests)

below_cases : (part : ℕ → Bool) (i k : ℕ) → with_below part (suc k) i ≡ true → (with_below part k i ≡ true) ⊎ (i ≡ k)
below_cases part i k e =
    ⊎_elim (λ (p : i ≡ k). inr p) (λ (p : i ≡ k → ⊥). inl (grind (arith, nat_tests))) (cases_eq i k)

-- counts of a part and the clocks below k, that are on the part a multiple of v with a common shift
pub record Grown (d : ℕ → ℕ → Limit) (s : ℕ) (part : ℕ → Bool) (v : ℕ → ℕ) (k : ℕ) : Type 0 where
  pub many : ℕ
  pub lift : ℕ
  pub counts : ℕ → ℕ
  pub positive : 1 ≤ many
  pub held : Held d (many * s) (with_below part k) counts
  pub same : (i : ℕ) → part i ≡ true → counts i ≡ many * v i + lift

module _ (d : ℕ → ℕ → Limit) (s : ℕ) (part : ℕ → Bool) (v : ℕ → ℕ)
    (closed : Closed limit_leb limit_plus d) (sound : Sound limit_leb (up_to (pos 0)) d) (positive : 1 ≤ s) where
  -- a clock of the part is there already
  grown_there : (k : ℕ) → part k ≡ true → Grown d s part v k → Grown d s part v (suc k)
  grown_there k e g =
      record {
        many = g.many;
        lift = g.lift;
        counts = g.counts;
        positive = g.positive;
        held = λ i j hi hj p q. g.held i j hi hj (there i p) (there j q);
        same = g.same;
      }
    where
      there : (i : ℕ) → with_below part (suc k) i ≡ true → with_below part k i ≡ true
      there i p = ⊎_elim (λ (q : with_below part k i ≡ true). q) (λ (q : i ≡ k). or_left (part i) (ltb i k) (ap part q ∙ e)) (below_cases part i k p)

  -- any other is added
  grown_new : (k : ℕ) → k < 7 → part k ≡ false → Grown d s part v k → Grown d s part v (suc k)
  grown_new k h e g =
      let many : ℕ = g.many in
      let old : ℕ → ℕ = shifted g.counts (shift d (many * s) k) in
      let x : ℕ = point d (many * s) (with_below part k) old k in
      let held = extended_shifted d (many * s) (with_below part k) g.counts k closed sound (mul-le-mul g.positive positive) h g.held in
      let scaled : 2 * (many * s) ≡ 2 * many * s = omega arith in
      record {
        many = 2 * many;
        lift = 2 * (g.lift + shift d (many * s) k);
        counts = with_count old k x;
        positive = omega (arith, g.positive);
        held = λ i j hi hj p q. rw (← scaled) (held i j hi hj (there i p) (there j q));
        same = λ i p.
            cond-false (eqb i k) x (2 * old i) (ne_eqb i k (λ q. both_ways (part k) e (ap part (sym q) ∙ p)))
            ∙ omega (arith, g.same i p);
      }
    where
      there : (i : ℕ) → with_below part (suc k) i ≡ true → with_clock (with_below part k) k i ≡ true
      there i p =
          ⊎_elim (λ (q : with_below part k i ≡ true). or_right (eqb i k) (with_below part k i) q)
          (λ (q : i ≡ k). or_left (eqb i k) (with_below part k i) (eq-eqb i k q)) (below_cases part i k p)

  grown_more : (k : ℕ) → k < 7 → (t : Bool) → part k ≡ t → Grown d s part v k → Grown d s part v (suc k)
  grown_more k h true e g = grown_there k e g
  grown_more k h false e g = grown_new k h e g

  grown : Held d s part v → (k : ℕ) → k ≤ 7 → Grown d s part v k
  grown held zero h =
      record {
        many = 1;
        lift = 0;
        counts = v;
        positive = omega arith;
        held = λ i j hi hj p q. rw one-mul (held i j hi hj (below_none part i p) (below_none part j q));
        same = λ i p. omega arith;
      }
  grown held (suc k) h = grown_more k h (part k) refl (grown held k (omega arith))

  pub filled : Held d s part v → Grown d s part v 7
  filled held = grown held 7 (omega arith)

pub filled_meets : (d : ℕ → ℕ → Limit) (s : ℕ) (part : ℕ → Bool) (v : ℕ → ℕ) (g : Grown d s part v 7) → Meets d (g.many * s) g.counts
filled_meets d s part v g i j hi hj = g.held i j hi hj (or_right (part i) (ltb i 7) (lt-ltb i 7 hi)) (or_right (part j) (ltb j 7) (lt-ltb j 7 hj))
