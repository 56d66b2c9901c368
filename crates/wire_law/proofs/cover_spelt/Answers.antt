use Rattle.wire_law.proofs.Cover.{cover_spelt}
use Rattle.wire_law.proofs.cover_spelt.Goals as goal

pub returns : goal.returns
returns c = cover_spelt
