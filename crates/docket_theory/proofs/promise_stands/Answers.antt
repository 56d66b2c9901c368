use Rattle.docket_theory.proofs.Promised.{promised}
use Rattle.docket_theory.proofs.promise_stands.Goals as goal

pub returns : goal.returns
returns g c = promised g.S.ClockSet.holds g.S.ClockSet.calls
