use Rattle.wire_law.proofs.FileBack.{model_read}
use Rattle.wire_law.proofs.model_read.Goals as goal

pub returns : goal.returns
returns c = model_read
