use Rattle.std.proofs.Common.{map}
use Rattle.weight.specs.Closing.{cell}
use Rattle.weight.proofs.Rows.{Agree}
use Rattle.matrix.proofs.Loops.{tight_to}
use Rattle.matrix.proofs.tighten.Given as goal

abbrev pub invariant-loop-k : goal.invariant-loop-k
invariant-loop-k g l =
    let w = g.W.Weight in
    Agree (cell w.unbounded (map w.value l.m)) (tight_to w.leb w.neutral (cell w.unbounded (map w.value l.initial.m)) l.k)
