use Rattle.model.specs.Whole.{plan_of}
use Rattle.model.proofs.Whole.{accepted}
use Rattle.docket_theory.proofs.Promised.{promised}
use Rattle.docket.specs.World.{world}
use Rattle.docket.proofs.docket.Docket.verdict.Goals as goal

pub returns : goal.returns
returns g c =
    let m = c.args.model.now in
    record {
      is = c.judged.ensures;
      promise = λ log logged. promised g.S.ClockSet.holds g.S.ClockSet.calls (plan_of m) (accepted m) log (world c.args.entries.now c.args.marks.now c.args.self.now) logged;
    }
