use Rattle.zone_theory.proofs.Exact.{scale_free}
use Rattle.zone_theory.proofs.scale_free_stands.Goals as goal

pub returns : goal.returns
returns c = scale_free
