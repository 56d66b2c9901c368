use Rattle.std.proofs.Common.{◌≡◌, ◌+◌, ◌*◌, map, get_or, rules, arith}
use Rattle.weight.proofs.Chains.{made_at}
use Rattle.weight.proofs.Rows.{read_value}
use Rattle.weight.specs.Closing.{cell}
use Rattle.weight.proofs.closing.row_of.Goals as goal
use borrow.Author.Tests.{tests}

pub returns : goal.returns
returns g c =
    let w = g.W.Weight in
    let xs = c.args.m.now in
    made_at _ _ _ 7 c.from_fn.ensures.items w.value (λ j. cell w.unbounded (map w.value xs) c.args.k j) w.unbounded (λ i y q lt h. let k : _ × (y ≡ get_or xs (7 * c.args.k + i) y) = search (rules, tests) in (k.0, read_value w.value w.unbounded xs (7 * c.args.k + i) y (omega arith) k.1))
