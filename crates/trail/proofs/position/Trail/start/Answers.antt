use Rattle.std.proofs.Common.{rules}
use Rattle.wire.specs.declared.step.Step.TheVariants.{Start}
use Rattle.model.specs.Whole.{plan_of}
use Rattle.trail.specs.Calls.{started}
use Rattle.trail.proofs.Walked.{walks_as, start_walks}
use Rattle.trail.proofs.position.Trail.start.Goals as goal

pub returns-clause-walks : goal.returns-clause-walks
returns-clause-walks c =
    let m = plan_of c.args.model.now in
    let t = c.args.self.now in
    walks_as m (Start c.args.cell c.args.k) t _ _ (started m c.args.cell c.args.k t) (search rules) (start_walks m c.args.cell c.args.k t)
