-- The lines of a walk: the number of cells, a line for every step taken, and where the trail ended. A refusal takes the place
-- of the line in hand, and is the last.
use Rattle.std.specs.Prelude.{ℕ, List, [], ◌∷◌, ◌++◌, length, Some, None, Ok, Err, Option, Result}
use Rattle.slip.specs.declared.Slip.{Slip}
use Rattle.wire.specs.declared.step.Step.{Step}
use Rattle.wire.specs.Files.{trail_file}
use Rattle.model.specs.Plans.{Plan}
use Rattle.model.specs.Read.{read_plan}
use Rattle.trail.specs.declared.position.Trail.{Trail}
use Rattle.trail.specs.Calls.{Outcome, setting_out, stepped}
use Rattle.lines.specs.Lines.{at_position}
use Rattle.lines.specs.declared.Line.{Line}
use Rattle.lines.specs.declared.Line.TheVariants.{Cells, Took, NoTrail, Refused, Trail as Ended}

-- a refusal, or what follows with the trail as it then is
abbrev pub unless_refused : Result (Unit {0}) Slip → Trail → (Trail → List Line) → List Line
unless_refused (Ok x) t rest = rest t
unless_refused (Err e) t rest = Refused e ∷ []

abbrev pub after_call : Outcome → (Trail → List Line) → List Line
after_call o rest = unless_refused o.0 o.1 rest

abbrev pub step_lines : Plan → List Step → Trail → List Line
step_lines p [] t = at_position t.position Ended
step_lines p (x ∷ xs) t = after_call (stepped p x t) (λ u. at_position u.position (Took x) ++ step_lines p xs u)

abbrev pub nowhere : Trail
nowhere = record { position = None }

abbrev pub file_lines : Plan → Result (ℕ × List Step) Slip → List Line
file_lines p (Ok f) = after_call (setting_out p f.0 nowhere) (step_lines p f.1)
file_lines p (Err e) = Refused e ∷ []

-- the trail's file, if there is one
abbrev pub trail_lines : Plan → Option (List ℕ) → List Line
trail_lines p None = NoTrail ∷ []
trail_lines p (Some s) = file_lines p (trail_file s)

abbrev pub plan_lines : Result Plan Slip → Option (List ℕ) → List Line
plan_lines (Ok p) trail = Cells (length p.cells) ∷ trail_lines p trail
plan_lines (Err e) trail = Refused e ∷ []

abbrev pub walk_lines : List ℕ → Option (List ℕ) → List Line
walk_lines model trail = plan_lines (read_plan model) trail
