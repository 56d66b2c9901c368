-- The trail file.
use Rattle.std.specs.Prelude.{ℕ, ◌-◌, List, [], ◌∷◌, ◌++◌, length, Some, None, Ok, vec_items, Option, Result}
use Rattle.slip.specs.declared.Slip.{Slip}
use Rattle.wire_fields.specs.Reading.{Parsed, ◌⨟◌, word_at, many, sized}
use Rattle.wire_trail.specs.declared.step.Step.{Step}
use Rattle.wire_trail.specs.declared.trail.TrailFile.{TrailFile}
use Rattle.wire_trail.specs.StepFormat.{next_at}

abbrev pub added : List Step → Option Step → List Step
added steps (Some step) = steps ++ step ∷ []
added steps None = steps

-- at most n steps, up to the end
unfoldable pub steps_at : ℕ → List ℕ → ℕ → Parsed (List Step)
steps_at n s p = many (λ steps _ step. added steps step) (λ _. next_at) [] n s p

-- the steps up to the end, of which there are no more than bytes
abbrev pub all_steps_at : List ℕ → ℕ → Parsed (List Step)
all_steps_at s p = steps_at (length s - p) s p

-- scale and steps
abbrev pub trail_at : List ℕ → Parsed (ℕ × List Step)
trail_at s = word_at s 0 ⨟ λ scale p. all_steps_at s p ⨟ λ steps q. Ok ((scale, steps), q)

abbrev pub trail_file : List ℕ → Result (ℕ × List Step) Slip
trail_file s = sized s (trail_at s)

-- size and scale, which are read before any memory is asked for
abbrev pub trail_head : List ℕ → Result ℕ Slip
trail_head s = sized s (word_at s 0)

abbrev pub trail_seen : TrailFile → ℕ × List Step
trail_seen f = (f.scale, vec_items f.steps)
