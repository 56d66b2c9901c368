use Rattle.std.proofs.Common.{◌≡◌, ◌+◌, ◌*◌, ◌/◌, ◌%◌, map, get_or, pos, rules, arith}
use Rattle.weight.specs.Bounds.{limit_of}
use Rattle.weight.specs.Limits.{free}
use Rattle.weight.specs.declared.bound.Bound.{Bound}
use Rattle.weight.proofs.Chains.{made_list}
use Rattle.zone_theory.specs.Sets.{tabled}
use Rattle.zone.specs.Zones.{limit_list, read_limit}
use Rattle.zone.specs.Kept.{read_room}
use Rattle.zone.proofs.load.Goals as goal
use borrow.Author.Tests.{tests}

pub returns : goal.returns
unfolding tabled
returns c =
    let none : Bound = record { code = pos 0 } in
    let z = c.args.zone.now in
    let items = c.from_fn.ensures.items in
    let is : map limit_of c.from_fn.result ≡ limit_list z
    = made_list _ _ _ 49 items limit_of (λ p. read_limit (get_or z.bounds (7 * (p / 7) + p % 7) none)) free
    (λ p y q lt h.
    let whole : 7 * (p / 7) + p % 7 ≡ p = omega arith in
    rw whole (search (rules, tests))) in
    record { long = items.long; same = is; room = rw is (read_room z) }
