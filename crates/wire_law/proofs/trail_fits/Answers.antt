use Rattle.wire_law.proofs.Fitting.{trail_fits}
use Rattle.wire_law.proofs.trail_fits.Goals as goal

pub returns : goal.returns
returns c = trail_fits
