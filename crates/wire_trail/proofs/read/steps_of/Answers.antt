use Rattle.wire_trail.proofs.Steps.{walked_more, walked_refused}
use Rattle.wire_trail.proofs.read.steps_of.Goals as goal

pub returns-in_err-step : goal.returns-in_err-step
returns-in_err-step c =
    walked_refused _ _ _ _ _ _ _ c.loop-reader.invariant c.loop-reader-test.true c.in_err-step.ensures c.from_residual.ensures.1

pub loop-reader-preserved : goal.loop-reader-preserved
loop-reader-preserved c =
    let v = c.in_ok-push.ensures in
    rw (v.len, v.items) (walked_more _ _ _ _ _ _ c.loop-reader.invariant c.loop-reader-test.true c.in_ok-step.ensures)
