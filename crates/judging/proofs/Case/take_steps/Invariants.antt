use Rattle.std.proofs.Common.{◌≡◌, drop}
use Rattle.judging.specs.Cases.{case_plan, case_world}
use Rattle.judging.specs.Judge.{step_all}
use Rattle.judging.proofs.Case.take_steps.Given as goal

abbrev pub invariant-loop-step : goal.invariant-loop-step
invariant-loop-step g l =
    (l.self.model ≡ l.initial.self.model)
    × (step_all g.S.ClockSet.calls (case_plan l.initial.self) (drop l.step-index l.steps) (case_world l.self)
    ≡ step_all g.S.ClockSet.calls (case_plan l.initial.self) l.steps (case_world l.initial.self))
