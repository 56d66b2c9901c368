use Rattle.std.proofs.Common.{refl, add-one}
use Rattle.docket_theory.specs.Docket.{opened}
use Rattle.docket.proofs.marks.open_entry.Goals as goal

pub loop-j-init : goal.loop-j-init
unfolding opened
loop-j-init c = refl

pub loop-j-preserved : goal.loop-j-preserved
unfolding opened
loop-j-preserved c = rw add-one (cc)
