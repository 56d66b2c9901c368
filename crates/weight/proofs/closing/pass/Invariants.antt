use Rattle.std.proofs.Common.{map}
use Rattle.weight.specs.Closing.{cell}
use Rattle.weight.proofs.Rows.{Agree, rows_to}
use Rattle.weight.proofs.closing.pass.Given as goal

abbrev pub invariant-loop-i : goal.invariant-loop-i
invariant-loop-i g l =
    let w = g.W.Weight in
    let old = cell w.unbounded (map w.value l.initial.m) in
    Agree (cell w.unbounded (map w.value l.m)) (rows_to w.leb w.plus old l.k l.i)
