use Rattle.zone_theory.proofs.Exact.{delay_exact}
use Rattle.zone_theory.proofs.delay_exact_stands.Goals as goal

pub returns : goal.returns
returns c = delay_exact
