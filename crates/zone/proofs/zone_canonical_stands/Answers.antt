use Rattle.zone.specs.Facts.{canonical}
use Rattle.zone.proofs.zone_canonical_stands.Goals as goal

pub returns : goal.returns
returns c = canonical
