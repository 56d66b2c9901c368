use Rattle.zone_theory.proofs.Exact.{within_exact}
use Rattle.zone_theory.proofs.within_exact_stands.Goals as goal

pub returns : goal.returns
returns c = within_exact
