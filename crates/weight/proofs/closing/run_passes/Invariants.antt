use Rattle.std.proofs.Common.{◌≡◌, map}
use Rattle.weight.specs.Closing.{passes}
use Rattle.weight.proofs.closing.run_passes.Given as goal

abbrev pub invariant-loop-k : goal.invariant-loop-k
invariant-loop-k g l =
    let w = g.W.Weight in
    map w.value l.m ≡ passes w.leb w.plus w.unbounded l.k (map w.value l.initial.m)
