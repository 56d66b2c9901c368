use Rattle.wire_law.proofs.FileSpelling.{model_spelt}
use Rattle.wire_law.proofs.model_spelt.Goals as goal

pub returns : goal.returns
returns c = model_spelt
