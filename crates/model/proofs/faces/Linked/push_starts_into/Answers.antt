use Rattle.std.proofs.Common.{◌≡◌, ◌++◌, add-one}
use Rattle.model.specs.Outgoing.{starts_into, start_at}
use Rattle.model.specs.Taken.{taken, capped}
use Rattle.model.proofs.Tables.{table_start, table_more}
use Rattle.model.proofs.faces.Linked.push_starts_into.Goals as goal

pub loop-k-init : goal.loop-k-init
unfolding starts_into
loop-k-init c = table_start c.args.moves.now

pub loop-k-preserved : goal.loop-k-preserved
unfolding starts_into
loop-k-preserved c =
    let cells = c.args.self.now.cells.now in
    let one : taken c.push_start.new.moves ≡ capped (taken c.loop-k.moves ++ start_at cells c.args.c c.args.d c.loop-k.k) = cc in
    rw add-one (table_more c.args.moves.now c.loop-k.moves c.push_start.new.moves (starts_into cells c.args.c c.args.d c.loop-k.k) _ c.loop-k.invariant one)
