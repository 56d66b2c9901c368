use Rattle.wire_law.proofs.Cover.{cover_fits}
use Rattle.wire_law.proofs.cover_fits.Goals as goal

pub returns : goal.returns
returns c = cover_fits
