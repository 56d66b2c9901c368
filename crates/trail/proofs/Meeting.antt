-- The test of an invariant says whether the counts meet it.
use Rattle.std.proofs.Common.{◌≡◌, ℕ, ◌*◌, ◌<◌, ◌≤◌, Bool, true, false, cond, ltb, leb, get_or, Some, None, Decides, Option, refl}
use Rattle.std.proofs.lemmas.Bool.{and_from, and_parts, ltb-true, lt-ltb, leb-true, le-leb}
use Rattle.wire.specs.declared.cell.Cell.{Cell}
use Rattle.wire.specs.declared.cell.End.{End}
use Rattle.clocks.specs.Readings.{Reading}
use Rattle.model.specs.Cells.{unbounded}
use Rattle.model.specs.Runs.{AboveLow, BelowHigh, Meets}
use Rattle.model.proofs.Below.{all_at, all_every}
use Rattle.trail.specs.Tests.{above_low, below_high, allowed, meets}

compares : (b : Bool) (x y : ℕ) → Decides (cond b (ltb x y) (leb x y)) (cond b (x < y) (x ≤ y))
compares true x y = (ltb-true x y, lt-ltb x y)
compares false x y = (leb-true x y, le-leb x y)

low_is : (o : Option End) (s n : ℕ) → Decides (above_low o s n) (AboveLow o s n)
low_is None s n = (λ e. tt, λ u. refl)
low_is (Some e) s n = compares e.open (e.units * s) n

high_is : (o : Option End) (s n : ℕ) → Decides (below_high o s n) (BelowHigh o s n)
high_is None s n = (λ e. tt, λ u. refl)
high_is (Some e) s n = compares e.open n (e.units * s)

pub meets_true : (c : Cell) (s : ℕ) (v : Reading) → meets c s v ≡ true → Meets c s v
unfolding meets
meets_true c s v h i lt =
    let e = get_or c.ends i unbounded in
    let n = get_or v i 0 in
    let p = and_parts (above_low e.low s n) (below_high e.high s n) (all_at 6 i (λ i. allowed (get_or c.ends i unbounded) s (get_or v i 0)) h lt) in
    ((low_is e.low s n).0 p.0, (high_is e.high s n).0 p.1)

pub meets_all : (c : Cell) (s : ℕ) (v : Reading) → Meets c s v → meets c s v ≡ true
unfolding meets
meets_all c s v h =
    all_every 6 (λ i. allowed (get_or c.ends i unbounded) s (get_or v i 0))
    (λ i lt. and_from (above_low (get_or c.ends i unbounded).low s (get_or v i 0)) (below_high (get_or c.ends i unbounded).high s (get_or v i 0)) ((low_is (get_or c.ends i unbounded).low s (get_or v i 0)).1 (h i lt).0) ((high_is (get_or c.ends i unbounded).high s (get_or v i 0)).1 (h i lt).1))
