-- A set that is cut by a cell's invariant keeps every reading that meets it, and so do the images of the steps.
use Rattle.std.proofs.Common.{◌≡◌, ℕ, zero, suc, ◌*◌, ◌<◌, ◌≤◌, Bool, true, false, cond, length, get_or, pos, neg_ℤ, Some, None, Ok, Err, Option, Result, refl, subst, arith}
use Rattle.slip.specs.declared.Slip.{Slip}
use Rattle.clocks.specs.declared.Sign.TheVariants.{Below, AtMost}
use Rattle.clocks.specs.Gaps.{Differs}
use Rattle.clocks.specs.Readings.{Reading, count_at}
use Rattle.wire.specs.declared.cell.Cell.{Cell}
use Rattle.wire.specs.declared.cell.End.{End}
use Rattle.model.specs.Cells.{unbounded}
use Rattle.model.specs.Runs.{AboveLow, BelowHigh, Meets}
use Rattle.clockset.specs.Calls.{Calls, ◌⨾◌}
use Rattle.clockset.specs.Laws.{Sound}
use Rattle.docket_theory.specs.Images.{low_gap, high_gap, cut_low, cut_high, cut_clock, cut_to, cut_by}

-- both calls of a sequence came
pub both_came : {A B : Type 0} (r : Result A Slip) (f : A → Result B Slip) (b : B) → r ⨾ f ≡ Ok b → (a : A) × (r ≡ Ok a) × (f a ≡ Ok b)
both_came (Ok a) f b h = (a, refl, h)
both_came (Err e) f b h = absurd (let z : ◌≡◌ {A = ℕ} 0 1 = cc in omega arith)

-- an end as a gap
low_obeyed : (b : Bool) (u s x : ℕ) → cond b (u * s < x) (u * s ≤ x) → Differs (cond b Below AtMost) (neg_ℤ (pos u)) s 0 x
low_obeyed true zero s x h = omega arith
low_obeyed true (suc u) s x h = omega arith
low_obeyed false zero s x h = omega arith
low_obeyed false (suc u) s x h = omega arith

high_obeyed : (b : Bool) (u s x : ℕ) → cond b (x < u * s) (x ≤ u * s) → Differs (cond b Below AtMost) (pos u) s x 0
high_obeyed true u s x h = omega arith
high_obeyed false u s x h = omega arith

module _ {S : Type 0} {holds : S → ℕ → Reading → Type 0} {k : Calls S} (sound : Sound holds k) where
  low_in : (i : ℕ) (o : Option End) (a b : S) → cut_low k i o a ≡ Ok b → (s : ℕ) (v : Reading) → 1 ≤ s → length v ≡ 6 → holds a s v → AboveLow o s (count_at v i) → holds b s v
  low_in i None a b cut s v one six h meets = subst (λ x. holds x s v) (let e : a ≡ b = cc in e) h
  low_in i (Some e) a b cut s v one six h meets =
      sound.gap_in a b (low_gap i e) cut s v one six h (low_obeyed e.open e.units s (count_at v i) meets)

  high_in : (i : ℕ) (o : Option End) (a b : S) → cut_high k i o a ≡ Ok b → (s : ℕ) (v : Reading) → 1 ≤ s → length v ≡ 6 → holds a s v → BelowHigh o s (count_at v i) → holds b s v
  high_in i None a b cut s v one six h meets = subst (λ x. holds x s v) (let e : a ≡ b = cc in e) h
  high_in i (Some e) a b cut s v one six h meets =
      sound.gap_in a b (high_gap i e) cut s v one six h (high_obeyed e.open e.units s (count_at v i) meets)

  cut_to_in : (c : Cell) (n : ℕ) (a b : S) → n ≤ 6 → cut_to k c n a ≡ Ok b → (s : ℕ) (v : Reading) → 1 ≤ s → length v ≡ 6 → holds a s v → Meets c s v → holds b s v
  unfolding cut_to
  cut_to_in c zero a b le cut s v one six h meets = subst (λ x. holds x s v) (let e : a ≡ b = cc in e) h
  cut_to_in c (suc n) a b le cut s v one six h meets =
      let ends = get_or c.ends n unbounded in
      let p = both_came (cut_to k c n a) (cut_clock k (suc n) ends) b cut in
      let q = both_came (cut_low k (suc n) ends.low p.0) (cut_high k (suc n) ends.high) b p.2 in
      let here = meets n (omega arith) in
      let before = cut_to_in c n a p.0 (omega arith) p.1 s v one six h meets in
      high_in (suc n) ends.high q.0 b q.2 s v one six (low_in (suc n) ends.low p.0 q.0 q.1 s v one six before here.0) here.1

  pub cut_in : (c : Cell) (a b : S) → cut_by k c a ≡ Ok b → (s : ℕ) (v : Reading) → 1 ≤ s → length v ≡ 6 → holds a s v → Meets c s v → holds b s v
  cut_in c a b cut s v one six h meets = cut_to_in c 6 a b (omega arith) cut s v one six h meets
