-- Lists of calls, the answers that they get, and what calls and answers alone say of a docket. Every list has the newest first.
use Rattle.std.specs.Prelude.{ℕ, ◌+◌, ◌-◌, Bool, true, false, cond, List, [], ◌∷◌, ◌++◌, length, take, Some, None, Ok, Err, Option, Result}
use Rattle.slip.specs.declared.Slip.{Slip}
use Rattle.wire.specs.declared.step.Step.{Step}
use Rattle.wire.specs.declared.step.Step.TheVariants.{Wait, Start, Finish}
use Rattle.model.specs.Plans.{Plan}
use Rattle.trail.specs.Calls.{setting_out, stepped}
use Rattle.trail.specs.Walks.{waits}
use Rattle.clockset.specs.Calls.{Calls}
use Rattle.docket_theory.specs.declared.Entry.{Entry}
use Rattle.docket_theory.specs.declared.Verdict.{Verdict}
use Rattle.docket_theory.specs.Docket.{lodged, struck, settled, swept, with_trail, verdict_of}
use Rattle.docket_theory.specs.Worlds.{World, fresh}

-- the nine calls: lodge a set on a cell, strike, settle a duty by a holder or as empty, sweep, set out at a scale, wait some ticks,
-- start an event of a cell, finish an event, verdict
pub data Call (S : Type 0) : Type 0 where
  lodge : ℕ → S → Call S
  strike : Call S
  settle : ℕ → ℕ → Option ℕ → Call S
  sweep : Call S
  set_out : ℕ → Call S
  wait : ℕ → Call S
  start : ℕ → ℕ → Call S
  finish : ℕ → Call S
  verdict : Call S

-- a slip; or that it is done, the new entry's number, how many duties are open, the verdict
pub data Answer : Type 0 where
  refused : Slip → Answer
  done : Answer
  numbered : ℕ → Answer
  counted : ℕ → Answer
  said : Verdict → Answer

abbrev pub numbered_or : Result ℕ Slip → Answer
numbered_or (Ok n) = numbered n
numbered_or (Err e) = refused e

abbrev pub done_or : Result (Unit {0}) Slip → Answer
done_or (Ok x) = done
done_or (Err e) = refused e

abbrev pub step_call : {S : Type 0} → Plan → Step → World S → Result (Unit {0}) Slip × World S
step_call m step w = with_trail (stepped m step w.trail) w

abbrev pub set_out_call : {S : Type 0} → Plan → ℕ → World S → Result (Unit {0}) Slip × World S
set_out_call m s w = with_trail (setting_out m s w.trail) w

-- the answer to a call, and the world after it
abbrev pub perform : {S : Type 0} → Calls S → Plan → Call S → World S → Answer × World S
perform k m (lodge cell a) w = (numbered_or (lodged k m cell a w).0, (lodged k m cell a w).1)
perform k m strike w = (done_or (struck w).0, (struck w).1)
perform k m (settle i j claim) w = (done_or (settled k m i j claim w).0, (settled k m i j claim w).1)
perform k m sweep w = (counted (swept k m w).0, (swept k m w).1)
perform k m (set_out s) w = (done_or (set_out_call m s w).0, (set_out_call m s w).1)
perform k m (wait n) w = (done_or (step_call m (Wait n) w).0, (step_call m (Wait n) w).1)
perform k m (start d e) w = (done_or (step_call m (Start d e) w).0, (step_call m (Start d e) w).1)
perform k m (finish e) w = (done_or (step_call m (Finish e) w).0, (step_call m (Finish e) w).1)
perform k m verdict w = (said (verdict_of m w), w)

-- calls with their answers
abbrev pub Log : Type 0 → Type 0
Log S = List (Call S × Answer)

-- the calls of a log were made of a fresh docket over two tables, gave the answers of the log, and led to the world
pub data Logged {S : Type 0} (k : Calls S) (m : Plan) : Log S → World S → Type 0 where
  begun : (rows : List (Entry S)) (marks : List ℕ) → Logged k m [] (fresh rows marks)
  called : {log : Log S} {w : World S} (c : Call S) → Logged k m log w → Logged k m ((c, (perform k m c w).0) ∷ log) (perform k m c w).1

-- some calls of a fresh docket led to the world
abbrev pub Worked : {S : Type 0} → Calls S → Plan → World S → Type 0
Worked {S} k m w = (log : Log S) × Logged k m log w

-- a call was not refused
abbrev pub accepted : Answer → Bool
accepted (refused e) = false
accepted done = true
accepted (numbered n) = true
accepted (counted n) = true
accepted (said v) = true

-- what an accepted call does to the list of entries, oldest first: lodge appends one, and strike takes the last one off
abbrev pub entries_by : {S : Type 0} → Call S → List (Entry S) → List (Entry S)
entries_by (lodge cell a) es = es ++ record { cell = cell; set = a } ∷ []
entries_by strike es = take (length es - 1) es
entries_by (settle i j claim) es = es
entries_by sweep es = es
entries_by (set_out s) es = es
entries_by (wait n) es = es
entries_by (start d e) es = es
entries_by (finish e) es = es
entries_by verdict es = es

-- the entries that lodge accepted and no strike has taken off since
abbrev pub entries_of : {S : Type 0} → Log S → List (Entry S)
entries_of [] = []
entries_of (x ∷ log) = cond (accepted x.1) (entries_by x.0 (entries_of log)) (entries_of log)

-- a scale, and the steps made at it
abbrev pub Walk : Type 0
Walk = Option (ℕ × List Step)

abbrev pub one_step : Step → Walk → Walk
one_step step None = None
one_step step (Some walk) = Some (walk.0, step ∷ walk.1)

abbrev pub walk_by : {S : Type 0} → Call S → Walk → Walk
walk_by (lodge cell a) walk = walk
walk_by strike walk = walk
walk_by (settle i j claim) walk = walk
walk_by sweep walk = walk
walk_by (set_out s) walk = Some (s, [])
walk_by (wait n) walk = one_step (Wait n) walk
walk_by (start d e) walk = one_step (Start d e) walk
walk_by (finish e) walk = one_step (Finish e) walk
walk_by verdict walk = walk

-- the last accepted scale, and the steps accepted since
abbrev pub walk_of : {S : Type 0} → Log S → Walk
walk_of [] = None
walk_of (x ∷ log) = cond (accepted x.1) (walk_by x.0 (walk_of log)) (walk_of log)

-- the ticks waited in all
abbrev pub waits_of : List Step → ℕ
waits_of [] = 0
waits_of (step ∷ steps) = waits_of steps + waits step
