use Rattle.std.proofs.Common.{rules}
use Rattle.wire.specs.declared.step.Step.TheVariants.{Finish}
use Rattle.model.specs.Whole.{plan_of}
use Rattle.trail.specs.Calls.{finished}
use Rattle.trail.proofs.Walked.{walks_as, finish_walks}
use Rattle.trail.proofs.position.Trail.finish.Goals as goal

pub returns-clause-walks : goal.returns-clause-walks
returns-clause-walks c =
    let m = plan_of c.args.model.now in
    let t = c.args.self.now in
    walks_as m (Finish c.args.k) t _ _ (finished m c.args.k t) (search rules) (finish_walks m c.args.k t)
