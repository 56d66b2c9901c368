use Rattle.zone_theory.proofs.Exact.{all_exact}
use Rattle.zone_theory.proofs.all_exact_stands.Goals as goal

pub returns : goal.returns
returns c = all_exact
