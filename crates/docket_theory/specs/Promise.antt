-- What a docket promises after every list of calls, whatever the kind of its sets, in the words of runs and readings.
use Rattle.std.specs.Prelude.{◌≡◌, ℕ, ◌<◌, ◌≤◌, true, false, ◌⊎◌, ◌↔◌, List, ◌∷◌, length, take, Some, None, Ok, Err, Option, Result, ◌≢◌}
use Rattle.std.specs.List.{slice_get}
use Rattle.slip.specs.declared.Refusal.TheVariants.{DocketFull, Unknown, EmptySet, OtherCell, NotHeld, BadScale, NoConfiguration}
use Rattle.slip.specs.declared.Slip.{Slip}
use Rattle.wire.specs.declared.step.Step.{Step}
use Rattle.clocks.specs.Readings.{Reading, zero_reading}
use Rattle.model.specs.Cells.{cell_at}
use Rattle.model.specs.Plans.{Plan, Accepted}
use Rattle.model.specs.Runs.{Configuration, Meets, Run}
use Rattle.trail.specs.declared.position.Position.{Position}
use Rattle.trail.specs.Calls.{slip_at}
use Rattle.trail.specs.Walks.{configuration}
use Rattle.clockset.specs.Calls.{Calls}
use Rattle.clockset.specs.Laws.{Sound, Sure, Inside, Vacant}
use Rattle.docket_theory.specs.declared.Duty.{Duty}
use Rattle.docket_theory.specs.declared.Entry.{Entry}
use Rattle.docket_theory.specs.declared.Verdict.TheVariants.{Reached, Shut}
use Rattle.docket_theory.specs.Docket.{slip, duty_at, duty_mark, is_final, lodged, struck, settled, swept_world, verdict_of}
use Rattle.docket_theory.specs.Images.{duty_image, duty_target}
use Rattle.docket_theory.specs.Log.{Log, Logged, entries_of, walk_of, waits_of, set_out_call}
use Rattle.docket_theory.specs.Worlds.{World, open_mark, empty_mark, row_at, capacity}

-- the live entries, the oldest first
abbrev pub live_entries : {S : Type 0} → World S → List (Entry S)
live_entries w = take w.live w.rows

-- no run at any scale has a final cell in it, first or later
abbrev pub Unreachable : Plan → Type 0
Unreachable m =
    (s : ℕ) (met : List Configuration) (steps : List Step) → Run m s met steps → (i : ℕ) (here : Configuration) → slice_get met i ≡ Some here → is_final m here.0 ≡ false

-- the steps, made at the scale, are a run that ends in the configuration
abbrev pub RunsTo : Plan → ℕ → List Step → Configuration → Type 0
RunsTo m s steps here = (past : List Configuration) × Run m s (here ∷ past) steps

-- where a trail is that has made a walk: nowhere without one; else where the walk, which is a run, ends, with the sum of its waits
abbrev pub Walked : Plan → Option (ℕ × List Step) → Option Position → Type 0
Walked m None o = o ≡ None
Walked m (Some walk) o =
    (p : Position) × (o ≡ Some p) × (p.scale ≡ walk.0) × (p.elapsed ≡ waits_of walk.1) × RunsTo m walk.0 walk.1 (configuration p)

-- the walk is a run whose last cell is final
abbrev pub EndsFinal : Plan → Option (ℕ × List Step) → Type 0
EndsFinal m o =
    (s : ℕ) × (steps : List Step) × (here : Configuration) × (o ≡ Some (s, steps)) × RunsTo m s steps here × (is_final m here.0 ≡ true)

module _ {S : Type 0} (holds : S → ℕ → Reading → Type 0) (k : Calls S) (m : Plan) (w : World S) where
  -- what lodge answers, and why: the docket is full; there is no such cell; the set has no reading at any scale; none of these
  pub data LodgeSays (cell : ℕ) (a : S) : Result ℕ Slip → Type 0 where
    full : capacity w ≤ w.live → LodgeSays cell a (Err (slip DocketFull w.live))
    no_cell : w.live < capacity w → length m.cells ≤ cell → LodgeSays cell a (Err (slip Unknown w.live))
    no_reading : w.live < capacity w → cell < length m.cells → Vacant holds a → LodgeSays cell a (Err (slip EmptySet w.live))
    appended : w.live < capacity w → cell < length m.cells → (Vacant holds a → ⊥) → LodgeSays cell a (Ok w.live)

  -- what settle answers to a claim on a duty that is there: the holder does not exist, or is on another cell; the image is refused;
  -- some reading of the image is not in the holder, or there is one at all; none of these
  pub data ClaimSays (i : ℕ) (d : Duty S) : Option ℕ → Result (Unit {0}) Slip → Type 0 where
    no_holder : (h : ℕ) → row_at w h ≡ None → ClaimSays i d (Some h) (Err (slip Unknown i))
    other_cell : (h : ℕ) (e : Entry S) → row_at w h ≡ Some e → (e.cell ≢ duty_target m d) → ClaimSays i d (Some h) (Err (slip OtherCell i))
    no_image : (h : ℕ) (e : Entry S) (x : Slip) → row_at w h ≡ Some e → e.cell ≡ duty_target m d → duty_image k m d ≡ Err x → ClaimSays i d (Some h) (Err x)
    not_within : (h : ℕ) (e : Entry S) (a : S) → row_at w h ≡ Some e → e.cell ≡ duty_target m d → duty_image k m d ≡ Ok a → (Inside holds a e.set → ⊥) → ClaimSays i d (Some h) (Err (slip NotHeld i))
    held : (h : ℕ) (e : Entry S) (a : S) → row_at w h ≡ Some e → e.cell ≡ duty_target m d → duty_image k m d ≡ Ok a → Inside holds a e.set → ClaimSays i d (Some h) (Ok tt)
    no_empty_image : (x : Slip) → duty_image k m d ≡ Err x → ClaimSays i d None (Err x)
    not_empty : (a : S) → duty_image k m d ≡ Ok a → (Vacant holds a → ⊥) → ClaimSays i d None (Err (slip NotHeld i))
    empty : (a : S) → duty_image k m d ≡ Ok a → Vacant holds a → ClaimSays i d None (Ok tt)

  -- what settle answers: there is no such duty, or as above
  pub data SettleSays (i j : ℕ) (claim : Option ℕ) : Result (Unit {0}) Slip → Type 0 where
    no_duty : duty_at m w i j ≡ None → SettleSays i j claim (Err (slip Unknown i))
    duty : (d : Duty S) (r : Result (Unit {0}) Slip) → duty_at m w i j ≡ Some d → ClaimSays i d claim r → SettleSays i j claim r

  -- what strike answers: nothing is there to strike, or something is
  pub data StrikeSays : Result (Unit {0}) Slip → Type 0 where
    nothing : w.live ≡ 0 → StrikeSays (Err (slip Unknown 0))
    taken_off : 0 < w.live → StrikeSays (Ok tt)

  -- what set out answers: the scale is out of range; the opening is no configuration; neither
  pub data SetOutSays (s : ℕ) : Result (Unit {0}) Slip → Type 0 where
    bad_scale : ((1 ≤ s) × (s ≤ 1000) → ⊥) → SetOutSays s (Err (slip_at BadScale w.trail))
    no_configuration : 1 ≤ s → s ≤ 1000 → (Meets (cell_at m.cells m.first) s zero_reading → ⊥) → SetOutSays s (Err (slip_at NoConfiguration w.trail))
    opened : 1 ≤ s → s ≤ 1000 → Meets (cell_at m.cells m.first) s zero_reading → SetOutSays s (Ok tt)

  -- a duty's image comes without refusal, and no reading belongs to it or all of its readings belong to one entry on its target cell
  abbrev pub TakenUp : Duty S → Type 0
  TakenUp d =
      (a : S) × (duty_image k m d ≡ Ok a) × (Vacant holds a ⊎ ((h : ℕ) × (e : Entry S) × (row_at w h ≡ Some e) × (e.cell ≡ duty_target m d) × Inside holds a e.set))

  -- the same, as a mark says: the image has no reading, or all of its readings belong to the entry on its target cell that is named
  abbrev pub Justified : Duty S → ℕ → Type 0
  Justified d t =
      (a : S) × (duty_image k m d ≡ Ok a) × (((t ≡ empty_mark) × Vacant holds a) ⊎ ((e : Entry S) × (row_at w t ≡ Some e) × (e.cell ≡ duty_target m d) × Inside holds a e.set))

  -- every duty is taken up, and no entry's cell is final
  pub record Closed : Type 0 where
    pub duties : (i j : ℕ) (d : Duty S) → duty_at m w i j ≡ Some d → TakenUp d
    pub none_final_is : (i : ℕ) (e : Entry S) → row_at w i ≡ Some e → is_final m e.cell ≡ false

  -- The laws of the kind are asked for only where they are named. A sound kind's yes to `within` and `empty` is true, and its other
  -- calls lose no reading; a sure kind misses no yes.
  pub record Promise (log : Log S) : Type 0 where
    -- the live entries are those that lodge accepted and no strike has taken off since, in their order; so they are numbered
    pub entries : (w.live ≡ length (entries_of log)) × (live_entries w ≡ entries_of log)
    pub rows : (i : ℕ) → row_at w i ≡ slice_get (entries_of log) i
    -- lodge, strike, settle and set out answer exactly as there is a reason to
    pub lodges : Sound holds k → Sure holds k → (cell : ℕ) (a : S) (r : Result ℕ Slip) → ((lodged k m cell a w).0 ≡ r) ↔ LodgeSays cell a r
    pub strikes : (r : Result (Unit {0}) Slip) → ((struck w).0 ≡ r) ↔ StrikeSays r
    pub settles : Sound holds k → Sure holds k → (i j : ℕ) (claim : Option ℕ) (r : Result (Unit {0}) Slip) → ((settled k m i j claim w).0 ≡ r) ↔ SettleSays i j claim r
    pub sets_out : (s : ℕ) (r : Result (Unit {0}) Slip) → ((set_out_call m s w).0 ≡ r) ↔ SetOutSays s r
    -- every duty with a mark that is not open is taken up as the mark says
    pub marks : Sound holds k → (i j : ℕ) (d : Duty S) → duty_at m w i j ≡ Some d → (duty_mark w i j ≢ open_mark) → Justified d (duty_mark w i j)
    -- where the verdict is shut, no run reaches a final cell
    pub shut : Sound holds k → verdict_of m w ≡ Shut → Unreachable m
    -- the steps accepted since the last accepted set out are a run; the trail is where it ends, and has waited as long
    pub trail : Walked m (walk_of log) w.trail.position
    -- the verdict is reached exactly when there is such a run and its last cell is final
    pub reached : (verdict_of m w ≡ Reached) ↔ EndsFinal m (walk_of log)
    -- sweep and then verdict say shut exactly when every duty is taken up and no entry's cell is final
    pub sweeps : Sound holds k → Sure holds k → (verdict_of m (swept_world k m w) ≡ Shut) ↔ Closed

-- after every list of calls of a fresh docket over any two tables, for every accepted model and any kind of set
abbrev pub Stands : {S : Type 0} → (S → ℕ → Reading → Type 0) → Calls S → Type 0
Stands {S} holds k =
    (m : Plan) → Accepted m → (log : Log S) (w : World S) → Logged k m log w → Promise holds k m w log
