use Rattle.std.proofs.Common.{◌≡◌, ◌++◌, drop, vec_items}
use Rattle.model.specs.Whole.{plan_of}
use Rattle.walking.specs.Walk.{step_lines}
use Rattle.walking.proofs.note_steps.Given as goal

abbrev pub invariant-loop-step : goal.invariant-loop-step
invariant-loop-step l = vec_items l.report.lines ++ step_lines (plan_of l.model) (drop l.step-index l.steps) l.trail ≡ vec_items l.initial.report.lines ++ step_lines (plan_of l.model) l.steps l.initial.trail
