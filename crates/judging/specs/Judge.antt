-- The report of a judge over any kind of clock set: it lodges the entries of a cover, sweeps, walks the trail and asks for the verdict. A
-- refusal takes the place of the line in hand, and is the last.
use Rattle.std.specs.Prelude.{ℕ, ◌*◌, List, [], ◌∷◌, ◌++◌, length, replicate, Some, None, Ok, Err, Option, Result}
use Rattle.slip.specs.declared.Slip.{Slip}
use Rattle.clocks.specs.declared.Gap.{Gap}
use Rattle.wire.specs.declared.step.Step.{Step}
use Rattle.wire.specs.Files.{cover_file, trail_file}
use Rattle.model.specs.Plans.{Plan}
use Rattle.model.specs.Read.{read_plan}
use Rattle.clockset.specs.Calls.{Calls, ◌⨾◌, cut_all}
use Rattle.docket_theory.specs.Docket.{lodged, swept, verdict_of, duty_count}
use Rattle.docket_theory.specs.Log.{set_out_call, step_call}
use Rattle.docket_theory.specs.Worlds.{World, fresh, open_mark, steps_per_entry, most_entries}
use Rattle.lines.specs.Lines.{at_position}
use Rattle.lines.specs.declared.Line.{Line}
use Rattle.lines.specs.declared.Line.TheVariants.{Cells, NoTrail, Refused, Entries, Verdict, Trail as Ended}

-- no cover has no entries
abbrev pub cover_entries : Option (List ℕ) → Result (List (ℕ × List Gap)) Slip
cover_entries None = Ok []
cover_entries (Some s) = cover_file s

module _ {S : Type 0} (k : Calls S) where
  -- the world after a call that was not refused
  abbrev pub unless_refused : {A : Type 0} → Result A Slip × World S → Result (World S) Slip
  unless_refused o = o.0 ⨾ λ _. Ok o.1

  -- the entries of a cover lodged one after another: each set is all readings, cut by the entry's gaps
  abbrev pub lodge_all : Plan → List (ℕ × List Gap) → World S → Result (World S) Slip
  lodge_all m [] w = Ok w
  lodge_all m (e ∷ es) w = cut_all k e.1 k.all ⨾ λ a. unless_refused (lodged k m e.0 a w) ⨾ lodge_all m es

  -- steps made one after another
  abbrev pub step_all : Plan → List Step → World S → Result (World S) Slip
  step_all m [] w = Ok w
  step_all m (x ∷ xs) w = unless_refused (step_call m x w) ⨾ step_all m xs

  -- the trail of a file, from its setting out on
  abbrev pub walk_all : Plan → ℕ × List Step → World S → Result (World S) Slip
  walk_all m f w = unless_refused (set_out_call m f.0 w) ⨾ step_all m f.1

  abbrev pub verdict_lines : Plan → World S → List Line
  verdict_lines m w = Verdict (verdict_of m w) ∷ []

  abbrev pub walked_lines : Plan → Result (World S) Slip → List Line
  walked_lines m (Ok w) = at_position w.trail.position Ended ++ verdict_lines m w
  walked_lines m (Err e) = Refused e ∷ []

  abbrev pub trail_lines : Plan → Option (List ℕ) → World S → List Line
  trail_lines m None w = NoTrail ∷ verdict_lines m w
  trail_lines m (Some s) w = walked_lines m (trail_file s ⨾ λ f. walk_all m f w)

  abbrev pub swept_line : Plan → World S → Line
  swept_line m w = Entries w.live (duty_count m w) (swept k m w).0

  abbrev pub swept_lines : Plan → Option (List ℕ) → World S → List Line
  swept_lines m trail w = swept_line m w ∷ trail_lines m trail (swept k m w).1

  abbrev pub lodged_lines : Plan → Option (List ℕ) → Result (World S) Slip → List Line
  lodged_lines m trail (Ok w) = swept_lines m trail w
  lodged_lines m trail (Err e) = Refused e ∷ []

  -- a fresh docket over full tables
  abbrev pub begun : World S
  begun = fresh (replicate most_entries (record { cell = 0; set = k.all })) (replicate (most_entries * steps_per_entry) open_mark)

  abbrev pub plan_lines : Option (List ℕ) → Option (List ℕ) → Result Plan Slip → List Line
  plan_lines cover trail (Ok m) =
      Cells (length m.cells) ∷ lodged_lines m trail (cover_entries cover ⨾ λ es. lodge_all m es begun)
  plan_lines cover trail (Err e) = Refused e ∷ []

  abbrev pub judge_lines : List ℕ → Option (List ℕ) → Option (List ℕ) → List Line
  judge_lines model cover trail = plan_lines cover trail (read_plan model)
