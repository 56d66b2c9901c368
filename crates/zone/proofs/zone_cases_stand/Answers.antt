use Rattle.zone.specs.Facts.{cases_stand}
use Rattle.zone.proofs.zone_cases_stand.Goals as goal

pub returns : goal.returns
returns c = cases_stand
