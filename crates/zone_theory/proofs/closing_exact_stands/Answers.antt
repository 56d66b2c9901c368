use Rattle.zone_theory.proofs.Exact.{closing_exact}
use Rattle.zone_theory.proofs.closing_exact_stands.Goals as goal

pub returns : goal.returns
returns c = closing_exact
