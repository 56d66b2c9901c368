use Rattle.wire_law.proofs.FileSpelling.{trail_spelt}
use Rattle.wire_law.proofs.trail_spelt.Goals as goal

pub returns : goal.returns
returns c = trail_spelt
