use Rattle.zone_theory.proofs.Exact.{empty_exact}
use Rattle.zone_theory.proofs.empty_exact_stands.Goals as goal

pub returns : goal.returns
returns c = empty_exact
