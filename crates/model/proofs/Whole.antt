-- An accepted model holds an accepted plan.
use Rattle.std.proofs.Common.{◌<◌, ◌≤◌, length, vec_items, arith}
use Rattle.model.specs.declared.accepted.Model.{Model}
use Rattle.model.specs.Plans.{Accepted}
use Rattle.model.specs.Whole.{plan_of}

pub accepted : (m : Model) → Accepted (plan_of m)
accepted m =
    let small : length (vec_items m.cells) ≤ 200 = omega (arith, m.small, m.cells.ok.0) in
    let begins : m.first < length (vec_items m.cells) = omega (arith, m.begins, m.cells.ok.0) in
    record { small = small; begins = begins; linked = m.linked; lettered = m.lettered; commuting = m.commuting; quiet = m.quiet; few = m.few }
