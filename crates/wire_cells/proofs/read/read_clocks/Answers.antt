use Rattle.wire_cells.specs.CellFormat.{clocks_at}
use Rattle.wire_fields.proofs.Many.{has_read_stop}
use Rattle.wire_cells.proofs.read.read_clocks.Goals as goal

pub returns-in_err-ends : goal.returns-in_err-ends
unfolding clocks_at
returns-in_err-ends c =
    has_read_stop _ _ _ _ _ _ _ _ _ _ _ c.loop-k-test.true c.loop-k.invariant c.in_err-ends.ensures c.from_residual.ensures.1
