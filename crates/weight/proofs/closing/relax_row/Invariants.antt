use Rattle.std.proofs.Common.{map, get_or}
use Rattle.weight.specs.Closing.{cell}
use Rattle.weight.proofs.Rows.{Agree, row_to}
use Rattle.weight.proofs.closing.relax_row.Given as goal

abbrev pub invariant-loop-j : goal.invariant-loop-j
invariant-loop-j g l =
    let w = g.W.Weight in
    let old = cell w.unbounded (map w.value l.initial.m) in
    Agree (cell w.unbounded (map w.value l.m)) (row_to w.leb w.plus old (λ y. get_or (map w.value l.row) y w.unbounded) l.k l.i l.j)
