-- The three-cell plan: cell 0 leads into cell 1, a barrier that is open for at most 4 units, and that into the final cell 2, where
-- clock 1 is at least 2. Leaving cell 0 resets clock 1.
use Rattle.std.specs.Prelude.{◌≡◌, ℕ, true, false, List, [], ◌∷◌, replicate, Some, None, Ok, Err, codes, slice_set}
use Rattle.std.proofs.Common.{lit≤}
use Rattle.slip.specs.declared.Refusal.TheVariants.{NoConfiguration}
use Rattle.wire.specs.declared.cell.Cell.{Cell}
use Rattle.wire.specs.declared.cell.Letter.TheVariants.{Barrier}
use Rattle.model.specs.Cells.{blank_event, unbounded}
use Rattle.model.specs.Plans.{Plan}
use Rattle.trail.specs.declared.position.Trail.{Trail}
use Rattle.trail.specs.Calls.{Outcome, waited, finished}
use Rattle.lines.specs.declared.Line.TheVariants.{Trail as Ended}
use Rattle.lines.specs.Lines.{lines_text, line_text}
use Rattle.walking.specs.Walk.{walk_lines}
use Rattle.clocks.specs.Readings.{zero_reading}

-- the files
abbrev pub three_cells : List ℕ
three_cells = 0 ∷ 3 ∷ 0 ∷ 0 ∷ 0 ∷ 32 ∷ 1 ∷ 0 ∷ 65 ∷ 66 ∷ 0 ∷ 0 ∷ 0 ∷ 2 ∷ 4 ∷ 0 ∷ 4 ∷ 0 ∷ 80 ∷ 1 ∷ 0 ∷ 2 ∷ []

abbrev pub three_steps : List ℕ
three_steps = 0 ∷ 2 ∷ 115 ∷ 0 ∷ 1 ∷ 1 ∷ 119 ∷ 0 ∷ 0 ∷ 0 ∷ 5 ∷ 102 ∷ 1 ∷ []

-- the plan that the model's file holds
abbrev pub entrance : Cell
entrance = record { events = replicate 4 blank_event; dim = 0; last = false; exits = 1; ends = replicate 6 unbounded; few = lit≤ tt }

abbrev pub barrier : Cell
barrier =
    record { events = slice_set (replicate 4 blank_event) 0 (record { letter = Barrier; lower = 0; upper = 2 }); dim = 1; last = false; exits = 0; ends = slice_set (replicate 6 unbounded) 0 (record { low = None; high = Some (record { units = 4; «open» = false }) }); few = lit≤ tt }

abbrev pub bay : Cell
bay =
    record { events = replicate 4 blank_event; dim = 0; last = true; exits = 0; ends = slice_set (replicate 6 unbounded) 0 (record { low = Some (record { units = 2; «open» = false }); high = None }); few = lit≤ tt }

abbrev pub plan : Plan
plan = record { first = 0; cells = entrance ∷ (barrier ∷ (bay ∷ [])) }

-- a trail at scale 2 that has just come into cell 1
abbrev pub in_barrier : Trail
in_barrier = record { position = Some (record { cell = 1; counts = zero_reading; scale = 2; elapsed = 0 }) }

-- wait n ticks there, then finish the barrier's event
abbrev pub wait_and_finish : ℕ → Outcome
wait_and_finish n = finished plan 1 (waited plan n in_barrier).1

abbrev pub refused_in : ℕ → Trail → Outcome
refused_in c t = (Err (record { refusal = NoConfiguration; place = c }), t)

abbrev pub in_bay : ℕ → Trail
in_bay n = record { position = Some (record { cell = 2; counts = n ∷ n ∷ n ∷ n ∷ n ∷ n ∷ []; scale = 2; elapsed = n }) }

abbrev pub waiting : ℕ → Trail
waiting n = record { position = Some (record { cell = 1; counts = n ∷ n ∷ n ∷ n ∷ n ∷ n ∷ []; scale = 2; elapsed = n }) }

abbrev pub WalksStand : Type 0
WalksStand =
    (lines_text (walk_lines three_cells (Some three_steps)) ≡ codes "cells 3\nstart cell 1 event 1: cell 1 counts 0 0 0 0 0 0 elapsed 0\nwait 5: cell 1 counts 5 5 5 5 5 5 elapsed 5\nfinish event 1: cell 2 counts 5 5 5 5 5 5 elapsed 5\ntrail cell 2 elapsed 2.5\n")
    × (wait_and_finish 4 ≡ (Ok tt, in_bay 4))
    × (wait_and_finish 3 ≡ refused_in 1 (waiting 3))
    × (waited plan 8 in_barrier ≡ (Ok tt, waiting 8))
    × (waited plan 9 in_barrier ≡ refused_in 1 in_barrier)
    × (line_text (Ended (record { cell = 0; counts = zero_reading; scale = 4; elapsed = 1 })) ≡ codes "trail cell 0 elapsed 0.3\n")
