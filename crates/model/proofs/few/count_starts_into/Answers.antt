use Rattle.std.proofs.Common.{◌≡◌, ◌≤◌, length, eqb, take, count_by, ◌∙◌, rules}
use Rattle.wire.specs.declared.cell.Event.{Event}
use Rattle.model.specs.Cells.{cell_at}
use Rattle.model.proofs.Counts.{into_counts}
use Rattle.model.proofs.few.count_starts_into.Goals as goal

pub returns-clause-is : goal.returns-clause-is
returns-clause-is c =
    let e : c.count.result ≡ count_by (λ (e : Event). eqb e.lower c.args.c) (take (cell_at c.args.cells.now c.args.d).dim (cell_at c.args.cells.now c.args.d).events) = search rules in
    let le : (cell_at c.args.cells.now c.args.d).dim ≤ length (cell_at c.args.cells.now c.args.d).events = rw (← c.cell_at.ensures) c.events_of.ensures.long in
    e ∙ into_counts c.args.cells.now c.args.c c.args.d _ le
