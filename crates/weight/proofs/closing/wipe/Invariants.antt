use Rattle.std.proofs.Common.{◌≡◌, ℕ, ◌<◌, map, get_or}
use Rattle.weight.proofs.closing.wipe.Given as goal

abbrev pub invariant-loop-x : goal.invariant-loop-x
invariant-loop-x g l =
    let w = g.W.Weight in
    (p : ℕ) → p < l.x-index → get_or (map w.value l.m) p w.unbounded ≡ w.value l.weight
