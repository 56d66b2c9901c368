-- The calls of a docket: what each answers, and the world afterwards. Each call tests its refusals in the order of their numbers, and
-- a refused call leaves the world as it was.
use Rattle.std.specs.Prelude.{ℕ, zero, suc, ◌+◌, ◌-◌, ◌*◌, Bool, false, cond, not, ◌&&◌, List, map, length, set, Some, None, Ok, Err, Option, Result, ◌==◌, nat_le, nat_lt}
use Rattle.std.specs.List.{slice_get}
use Rattle.slip.specs.declared.Refusal.{Refusal}
use Rattle.slip.specs.declared.Refusal.TheVariants.{DocketFull, Unknown, EmptySet, OtherCell, NotHeld}
use Rattle.slip.specs.declared.Slip.{Slip}
use Rattle.model.specs.declared.outgoing.Move.{Move}
use Rattle.model.specs.Below.{all_below, first_bad}
use Rattle.model.specs.Cells.{cell_at}
use Rattle.model.specs.Outgoing.{moves_out}
use Rattle.model.specs.Plans.{Plan}
use Rattle.trail.specs.declared.position.Position.{Position}
use Rattle.trail.specs.Calls.{Outcome}
use Rattle.clockset.specs.Calls.{Calls}
use Rattle.docket_theory.specs.declared.Duty.{Duty}
use Rattle.docket_theory.specs.declared.Duty.TheVariants.{Opening, Leave}
use Rattle.docket_theory.specs.declared.Entry.{Entry}
use Rattle.docket_theory.specs.declared.Verdict.{Verdict}
use Rattle.docket_theory.specs.declared.Verdict.TheVariants.{Reached, Shut, Undecided}
use Rattle.docket_theory.specs.Images.{duty_image, duty_target}
use Rattle.docket_theory.specs.Worlds.{World, open_mark, empty_mark, steps_per_entry, row_at, mark_place, mark_at, capacity}

abbrev pub slip : Refusal → ℕ → Slip
slip r p = record { refusal = r; place = p }

-- a call that is refused by a slip, if there is one, and else gives an answer and a new world
abbrev pub unless : {S A : Type 0} → Option Slip → A → World S → World S → Result A Slip × World S
unless None a after w = (Ok a, after)
unless (Some e) a after w = (Err e, w)

-- lodge

-- n marks from place p on put to open
unfoldable pub opened : List ℕ → ℕ → ℕ → List ℕ
opened marks p zero = marks
opened marks p (suc n) = set (opened marks p n) (p + n) open_mark

-- the marks of entry i put to open
abbrev pub entry_opened : List ℕ → ℕ → List ℕ
entry_opened marks i = opened marks (i * steps_per_entry) steps_per_entry

abbrev pub lodge_fault : {S : Type 0} → Calls S → Plan → ℕ → S → World S → Option Slip
lodge_fault k m cell a w =
    cond (nat_le (capacity w) w.live) (Some (slip DocketFull w.live))
    (cond (nat_lt cell (length m.cells)) (cond (k.empty a) (Some (slip EmptySet w.live)) None)
    (Some (slip Unknown w.live)))

abbrev pub lodge_after : {S : Type 0} → ℕ → S → World S → World S
lodge_after cell a w =
    record { rows = set w.rows w.live (record { cell = cell; set = a }); marks = entry_opened w.marks w.live; live = w.live + 1; opening = w.opening; trail = w.trail }

abbrev pub lodged : {S : Type 0} → Calls S → Plan → ℕ → S → World S → Result ℕ Slip × World S
lodged k m cell a w = unless (lodge_fault k m cell a w) w.live (lodge_after cell a w) w

-- strike

abbrev pub strike_fault : {S : Type 0} → World S → Option Slip
strike_fault w = cond (w.live == 0) (Some (slip Unknown 0)) None

-- a mark that names entry n becomes open
abbrev pub forget : ℕ → ℕ → ℕ
forget n t = cond (t == n) open_mark t

abbrev pub strike_after : {S : Type 0} → World S → World S
strike_after w =
    record { rows = w.rows; marks = map (forget (w.live - 1)) (entry_opened w.marks (w.live - 1)); live = w.live - 1; opening = forget (w.live - 1) w.opening; trail = w.trail }

abbrev pub struck : {S : Type 0} → World S → Result (Unit {0}) Slip × World S
struck w = unless (strike_fault w) tt (strike_after w) w

-- duties and their marks: (65535, 0) names the opening duty, (i, j) step j out of the cell of entry i

abbrev pub step_of : {S : Type 0} → Entry S → Option Move → Option (Duty S)
step_of e None = None
step_of e (Some move) = Some (Leave e move)

abbrev pub duty_of : {S : Type 0} → Plan → Option (Entry S) → ℕ → Option (Duty S)
duty_of m None j = None
duty_of m (Some e) j = step_of e (slice_get (moves_out m.cells e.cell) j)

abbrev pub duty_at : {S : Type 0} → Plan → World S → ℕ → ℕ → Option (Duty S)
duty_at m w i j = cond (i == open_mark) (cond (j == 0) (Some Opening) None) (duty_of m (row_at w i) j)

abbrev pub duty_mark : {S : Type 0} → World S → ℕ → ℕ → ℕ
duty_mark w i j = cond (i == open_mark) w.opening (mark_at w i j)

-- the mark of duty (i, j) put to t
abbrev pub marked : {S : Type 0} → ℕ → ℕ → ℕ → World S → World S
marked i j t w =
    cond (i == open_mark) (record { rows = w.rows; marks = w.marks; live = w.live; opening = t; trail = w.trail })
    (record { rows = w.rows; marks = set w.marks (mark_place i j) t; live = w.live; opening = w.opening; trail = w.trail })

-- settle

-- the image that came passes the test, or else the claim is not held
abbrev pub held_fault : {S : Type 0} → ℕ → (S → Bool) → Result S Slip → Option Slip
held_fault i test (Ok a) = cond (test a) None (Some (slip NotHeld i))
held_fault i test (Err e) = Some e

abbrev pub holder_fault : {S : Type 0} → Calls S → Plan → ℕ → Duty S → Option (Entry S) → Option Slip
holder_fault k m i d None = Some (slip Unknown i)
holder_fault k m i d (Some e) =
    cond (e.cell == duty_target m d) (held_fault i (λ a. k.within a e.set) (duty_image k m d)) (Some (slip OtherCell i))

-- a claim names the holding entry; no holder claims that the image is empty
abbrev pub claim_fault : {S : Type 0} → Calls S → Plan → World S → ℕ → Duty S → Option ℕ → Option Slip
claim_fault k m w i d None = held_fault i k.empty (duty_image k m d)
claim_fault k m w i d (Some h) = holder_fault k m i d (row_at w h)

abbrev pub duty_fault : {S : Type 0} → Calls S → Plan → World S → ℕ → Option (Duty S) → Option ℕ → Option Slip
duty_fault k m w i None claim = Some (slip Unknown i)
duty_fault k m w i (Some d) claim = claim_fault k m w i d claim

abbrev pub settle_fault : {S : Type 0} → Calls S → Plan → ℕ → ℕ → Option ℕ → World S → Option Slip
settle_fault k m i j claim w = duty_fault k m w i (duty_at m w i j) claim

abbrev pub claim_mark : Option ℕ → ℕ
claim_mark None = empty_mark
claim_mark (Some h) = h

abbrev pub settled : {S : Type 0} → Calls S → Plan → ℕ → ℕ → Option ℕ → World S → Result (Unit {0}) Slip × World S
settled k m i j claim w = unless (settle_fault k m i j claim w) tt (marked i j (claim_mark claim) w) w

-- sweep

-- an entry holds a set on a cell
abbrev pub can_hold : {S : Type 0} → Calls S → S → ℕ → Option (Entry S) → Bool
can_hold k a goal None = false
can_hold k a goal (Some e) = e.cell == goal && k.within a e.set

-- the lowest live entry that holds the set on the cell
abbrev pub lowest_holder : {S : Type 0} → Calls S → World S → S → ℕ → Option ℕ
lowest_holder k w a goal = first_bad w.live (λ h. not (can_hold k a goal (row_at w h)))

abbrev pub holder_mark : Option ℕ → ℕ
holder_mark None = open_mark
holder_mark (Some h) = h

-- the mark by which a duty with this image and target can be settled
abbrev pub found_mark : {S : Type 0} → Calls S → World S → ℕ → Result S Slip → ℕ
found_mark k w goal (Ok a) = cond (k.empty a) empty_mark (holder_mark (lowest_holder k w a goal))
found_mark k w goal (Err e) = open_mark

-- an open mark of a duty becomes the mark that it can be settled by
abbrev pub swept_mark : {S : Type 0} → Calls S → Plan → World S → Option (Duty S) → ℕ → ℕ
swept_mark k m w None t = t
swept_mark k m w (Some d) t = cond (t == open_mark) (found_mark k w (duty_target m d) (duty_image k m d)) t

abbrev pub duty_swept : {S : Type 0} → Calls S → Plan → ℕ → ℕ → World S → World S
duty_swept k m i j w = marked i j (swept_mark k m w (duty_at m w i j) (duty_mark w i j)) w

-- the first n steps of entry i
unfoldable pub steps_swept : {S : Type 0} → Calls S → Plan → ℕ → ℕ → World S → World S
steps_swept k m i zero w = w
steps_swept k m i (suc n) w = duty_swept k m i n (steps_swept k m i n w)

-- how many steps leave the cell of an entry
abbrev pub steps_out : {S : Type 0} → Plan → Option (Entry S) → ℕ
steps_out m None = 0
steps_out m (Some e) = length (moves_out m.cells e.cell)

-- the first n entries
unfoldable pub entries_swept : {S : Type 0} → Calls S → Plan → ℕ → World S → World S
entries_swept k m zero w = w
entries_swept k m (suc n) w = steps_swept k m n (steps_out m (row_at w n)) (entries_swept k m n w)

abbrev pub swept_world : {S : Type 0} → Calls S → Plan → World S → World S
swept_world k m w = entries_swept k m w.live (duty_swept k m open_mark 0 w)

-- 1 for a mark that is open
abbrev pub open_one : ℕ → ℕ
open_one t = cond (t == open_mark) 1 0

-- how many of the first n steps of entry i are open
unfoldable pub open_steps : {S : Type 0} → World S → ℕ → ℕ → ℕ
open_steps w i zero = 0
open_steps w i (suc n) = open_steps w i n + open_one (mark_at w i n)

-- how many duties of the first n entries are open
unfoldable pub open_entries : {S : Type 0} → Plan → World S → ℕ → ℕ
open_entries m w zero = 0
open_entries m w (suc n) = open_entries m w n + open_steps w n (steps_out m (row_at w n))

abbrev pub open_duties : {S : Type 0} → Plan → World S → ℕ
open_duties m w = open_one w.opening + open_entries m w w.live

-- how many duties stay open
abbrev pub swept : {S : Type 0} → Calls S → Plan → World S → ℕ × World S
swept k m w = (open_duties m (swept_world k m w), swept_world k m w)

-- the trail's calls: what the trail makes of them, with the rest as it was
abbrev pub with_trail : {S : Type 0} → Outcome → World S → Result (Unit {0}) Slip × World S
with_trail o w =
    (o.0, record { rows = w.rows; marks = w.marks; live = w.live; opening = w.opening; trail = o.1 })

-- verdict

abbrev pub is_final : Plan → ℕ → Bool
is_final m c = (cell_at m.cells c).last

abbrev pub final_position : Plan → Option Position → Bool
final_position m None = false
final_position m (Some p) = is_final m p.cell

abbrev pub final_row : {S : Type 0} → Plan → Option (Entry S) → Bool
final_row m None = false
final_row m (Some e) = is_final m e.cell

-- no live entry's cell is final
abbrev pub none_final : {S : Type 0} → Plan → World S → Bool
none_final m w = all_below w.live (λ i. not (final_row m (row_at w i)))

-- every duty is settled, and no entry's cell is final
abbrev pub is_shut : {S : Type 0} → Plan → World S → Bool
is_shut m w = open_duties m w == 0 && none_final m w

abbrev pub verdict_of : {S : Type 0} → Plan → World S → Verdict
verdict_of m w = cond (final_position m w.trail.position) Reached (cond (is_shut m w) Shut Undecided)

-- how many duties the first n entries have
unfoldable pub entry_duties : {S : Type 0} → Plan → World S → ℕ → ℕ
entry_duties m w zero = 0
entry_duties m w (suc n) = entry_duties m w n + steps_out m (row_at w n)

-- how many duties there are, the opening duty among them
abbrev pub duty_count : {S : Type 0} → Plan → World S → ℕ
duty_count m w = 1 + entry_duties m w w.live
