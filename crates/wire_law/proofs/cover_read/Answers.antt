use Rattle.wire_law.proofs.Cover.{cover_read}
use Rattle.wire_law.proofs.cover_read.Goals as goal

pub returns : goal.returns
returns c = cover_read
