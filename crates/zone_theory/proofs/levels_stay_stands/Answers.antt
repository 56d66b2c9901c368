use Rattle.zone_theory.proofs.Exact.{levels_stay}
use Rattle.zone_theory.proofs.levels_stay_stands.Goals as goal

pub returns : goal.returns
returns c = levels_stay
