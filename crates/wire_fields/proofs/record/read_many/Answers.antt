use Rattle.wire_fields.proofs.Many.{has_read_fault}
use Rattle.wire_fields.proofs.record.read_many.Goals as goal

pub returns-in_err-next-clause-reads : goal.returns-in_err-next-clause-reads
returns-in_err-next-clause-reads g c =
    has_read_fault _ _ _ _ _ _ _ _ _ _ _ _ _ c.loop-k-test.true c.loop-k.invariant.read c.in_err-next.ensures c.from_residual.ensures.1
