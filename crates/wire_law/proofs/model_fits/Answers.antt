use Rattle.wire_law.proofs.Fitting.{model_fits}
use Rattle.wire_law.proofs.model_fits.Goals as goal

pub returns : goal.returns
returns c = model_fits
