-- What a case stands for, and what a call makes of it.
use Rattle.std.specs.Prelude.{◌≡◌, Ok, Result}
use Rattle.slip.specs.declared.Slip.{Slip}
use Rattle.clockset.specs.Calls.{◌⨾◌}
use Rattle.model.specs.Plans.{Plan}
use Rattle.model.specs.Whole.{plan_of}
use Rattle.docket_theory.specs.Worlds.{World}
use Rattle.docket.specs.World.{world}
use Rattle.judging.specs.declared.Case.{Case}

abbrev pub case_plan : {S : Type 0} → Case S → Plan
case_plan c = plan_of c.model.now

abbrev pub case_world : {S : Type 0} → Case S → World S
case_world c = world c.entries c.marks.now c.docket

-- The call that answered r keeps the model, and makes of the case's world what f makes of it, or is refused as f is.
pub record Turns {S : Type 0} (f : Plan → World S → Result (World S) Slip) (old new : Case S) (r : Result (Unit {0}) Slip) : Type 0 where
  pub same : new.model ≡ old.model
  pub turned : f (case_plan old) (case_world old) ≡ (r ⨾ λ _. Ok (case_world new))
