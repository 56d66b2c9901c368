use Rattle.trail.specs.Tests.{meets}
use Rattle.trail.proofs.config.meets_cell.Goals as goal

pub returns : goal.returns
unfolding meets
returns c = c.all_allow.ensures
