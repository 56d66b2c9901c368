use Rattle.wire_cells.specs.CellFormat.{events_at}
use Rattle.wire_fields.proofs.Many.{has_read_stop}
use Rattle.wire_cells.proofs.read.read_events.Goals as goal

pub returns-in_err-events : goal.returns-in_err-events
unfolding events_at
returns-in_err-events c =
    has_read_stop _ _ _ _ _ _ _ _ _ _ _ c.loop-k-test.true c.loop-k.invariant c.in_err-events.ensures c.from_residual.ensures.1
