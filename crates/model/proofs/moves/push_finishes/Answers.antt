use Rattle.std.proofs.Common.{add-one}
use Rattle.model.specs.Outgoing.{finishes}
use Rattle.model.proofs.Tables.{table_start, table_more}
use Rattle.model.proofs.moves.push_finishes.Goals as goal

pub loop-k-init : goal.loop-k-init
unfolding finishes
loop-k-init c = table_start c.args.moves.now

pub loop-k-preserved : goal.loop-k-preserved
unfolding finishes
loop-k-preserved c =
    rw add-one (table_more c.args.moves.now c.loop-k.moves c.push.new.self (finishes c.loop-k.k) _ c.loop-k.invariant c.push.ensures)
