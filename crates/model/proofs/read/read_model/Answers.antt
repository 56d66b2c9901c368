use Rattle.model.specs.Whole.{plan_of}
use Rattle.model.proofs.Lawful.{lawful}
use Rattle.model.proofs.Whole.{accepted}
use Rattle.model.proofs.read.read_model.Goals as goal

pub returns-clause-lawful : goal.returns-clause-lawful
returns-clause-lawful c = let m = c.in_ok-model.model in lawful (plan_of m) (accepted m)
