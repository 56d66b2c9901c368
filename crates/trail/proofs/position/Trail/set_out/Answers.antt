use Rattle.std.proofs.Common.{rules}
use Rattle.model.specs.Whole.{plan_of}
use Rattle.trail.proofs.Walked.{opens_as}
use Rattle.trail.proofs.position.Trail.set_out.Goals as goal

pub returns-clause-opens : goal.returns-clause-opens
returns-clause-opens c = opens_as (plan_of c.args.model.now) c.args.scale c.args.self.now _ _ (search rules)
