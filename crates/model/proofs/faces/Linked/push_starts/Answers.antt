use Rattle.std.proofs.Common.{add-one}
use Rattle.model.specs.Outgoing.{starts_below}
use Rattle.model.proofs.Tables.{table_start, table_more}
use Rattle.model.proofs.faces.Linked.push_starts.Goals as goal

pub loop-d-init : goal.loop-d-init
unfolding starts_below
loop-d-init c = table_start c.args.moves.now

pub loop-d-preserved : goal.loop-d-preserved
unfolding starts_below
loop-d-preserved c =
    rw add-one (table_more c.args.moves.now c.loop-d.moves c.push_starts_into.new.moves (starts_below c.args.self.now.cells.now c.args.c c.loop-d.d) _ c.loop-d.invariant c.push_starts_into.ensures)
