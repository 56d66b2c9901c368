use Rattle.wire_law.proofs.Examples.{examples_stand}
use Rattle.wire_law.proofs.examples_stand.Goals as goal

pub returns : goal.returns
returns c = examples_stand
