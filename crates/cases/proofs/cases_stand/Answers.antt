use Rattle.cases.proofs.Judged.{cases}
use Rattle.cases.proofs.cases_stand.Goals as goal

pub returns : goal.returns
returns c = cases
