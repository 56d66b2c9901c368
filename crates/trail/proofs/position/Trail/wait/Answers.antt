use Rattle.std.proofs.Common.{rules}
use Rattle.wire.specs.declared.step.Step.TheVariants.{Wait}
use Rattle.model.specs.Whole.{plan_of}
use Rattle.trail.specs.Calls.{waited}
use Rattle.trail.proofs.Walked.{walks_as, wait_walks}
use Rattle.trail.proofs.position.Trail.wait.Goals as goal

pub returns-clause-walks : goal.returns-clause-walks
returns-clause-walks c =
    let m = plan_of c.args.model.now in
    let t = c.args.self.now in
    walks_as m (Wait c.args.ticks) t _ _ (waited m c.args.ticks t) (search rules) (wait_walks m c.args.ticks t)
