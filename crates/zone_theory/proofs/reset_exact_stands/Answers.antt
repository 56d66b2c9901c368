use Rattle.zone_theory.proofs.Exact.{reset_exact}
use Rattle.zone_theory.proofs.reset_exact_stands.Goals as goal

pub returns : goal.returns
returns c = reset_exact
