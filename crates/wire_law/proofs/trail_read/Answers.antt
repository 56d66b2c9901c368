use Rattle.wire_law.proofs.FileBack.{trail_read}
use Rattle.wire_law.proofs.trail_read.Goals as goal

pub returns : goal.returns
returns c = trail_read
