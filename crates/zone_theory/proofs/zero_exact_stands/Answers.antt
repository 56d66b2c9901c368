use Rattle.zone_theory.proofs.Exact.{zero_exact}
use Rattle.zone_theory.proofs.zero_exact_stands.Goals as goal

pub returns : goal.returns
returns c = zero_exact
