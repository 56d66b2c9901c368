use Rattle.std.proofs.Common.{◌≡◌, ℕ, ◌+◌, ◌*◌, ◌/◌, ◌%◌, map, get_or, rules, arith}
use Rattle.clocks.specs.Readings.{in_mask}
use Rattle.weight.specs.Closing.{cell}
use Rattle.weight.proofs.Chains.{made_list}
use Rattle.weight.proofs.Rows.{read_value}
use Rattle.zone_theory.specs.Matrices.{home}
use Rattle.zone_theory.specs.Sets.{tabled}
use Rattle.zone_theory.proofs.Resets.{home_in}
use Rattle.matrix.proofs.reset.Goals as goal
use borrow.Author.Tests.{tests}

pub returns : goal.returns
unfolding tabled
returns g c =
    let w = g.W.Weight in
    let from = c.args.from.now in
    let set = in_mask c.args.mask in
    let at : ℕ → ℕ = λ p. 7 * home set (p / 7) + home set (p % 7) in
    made_list _ _ _ 49 c.from_fn.ensures.items w.value (λ p. cell w.unbounded (map w.value from) (home set (p / 7)) (home set (p % 7))) w.unbounded
    (λ p y q lt h.
    let row = home_in set (p / 7) (omega arith) in
    let column = home_in set (p % 7) (omega arith) in
    let k : _ × (y ≡ get_or from (at p) y) = search (rules, tests) in
    (k.0, read_value w.value w.unbounded from (at p) y (omega arith) k.1))
