use Rattle.std.proofs.Common.{map}
use Rattle.weight.specs.Closing.{cell}
use Rattle.weight.proofs.Rows.{Agree}
use Rattle.matrix.proofs.Loops.{free_to}
use Rattle.matrix.proofs.delay.Given as goal

abbrev pub invariant-loop-i : goal.invariant-loop-i
invariant-loop-i g l =
    let w = g.W.Weight in
    Agree (cell w.unbounded (map w.value l.m)) (free_to w.unbounded (cell w.unbounded (map w.value l.initial.m)) l.i)
