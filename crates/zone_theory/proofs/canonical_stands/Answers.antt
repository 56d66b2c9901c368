use Rattle.zone_theory.proofs.Exact.{canonical}
use Rattle.zone_theory.proofs.canonical_stands.Goals as goal

pub returns : goal.returns
returns c = canonical
