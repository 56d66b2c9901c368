use Rattle.zone_theory.proofs.Exact.{gap_exact}
use Rattle.zone_theory.proofs.gap_exact_stands.Goals as goal

pub returns : goal.returns
returns c = gap_exact
