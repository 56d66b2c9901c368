use Rattle.std.proofs.Common.{refl, ◌∙◌}
use Rattle.zone_theory.specs.Matrices.{all_limits}
use Rattle.zone_theory.specs.Sets.{tabled}
use Rattle.zone.specs.Kept.{stored_one}
use Rattle.zone.proofs.ZoneClockSet.all.Goals as goal

pub returns : goal.returns
unfolding tabled
returns c = stored_one _ (tabled all_limits) (c.tighten.ensures ∙ rw c.free-bounds.ensures refl)
