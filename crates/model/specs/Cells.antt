-- Cells by number, and the parts of a cell that rules and runs speak of. A cell or event that does not exist reads as a blank
-- one, so that every definition is total.
use Rattle.std.specs.Prelude.{ℕ, Bool, false, cond, List, map, replicate, None, slice_index_or}
use Rattle.std.proofs.Common.{lit≤}
use Rattle.std.specs.List.{range_with_len}
use Rattle.wire.specs.declared.cell.Cell.{Cell}
use Rattle.wire.specs.declared.cell.Ends.{Ends}
use Rattle.wire.specs.declared.cell.Event.{Event}
use Rattle.wire.specs.declared.cell.Letter.{Letter}
use Rattle.wire.specs.declared.cell.Letter.TheVariants.{Barrier}

abbrev pub blank_event : Event
blank_event = record { letter = Barrier; lower = 0; upper = 0 }

abbrev pub unbounded : Ends
unbounded = record { low = None; high = None }

-- no events, no exits, no ends, not final
abbrev pub blank_cell : Cell
blank_cell =
    record { events = replicate 4 blank_event; dim = 0; last = false; exits = 0; ends = replicate 6 unbounded; few = lit≤ tt }

abbrev pub cell_at : List Cell → ℕ → Cell
cell_at cells i = slice_index_or cells i blank_cell

-- the event at index k, from 0
abbrev pub event_at : Cell → ℕ → Event
event_at c k = slice_index_or c.events k blank_event

-- which of the two faces of an event: true is the upper one
abbrev pub face_of : Bool → Event → ℕ
face_of upper e = cond upper e.upper e.lower

-- the number of face k, from 0, of cell i
abbrev pub face : List Cell → Bool → ℕ → ℕ → ℕ
face cells upper i k = face_of upper (event_at (cell_at cells i) k)

-- the letters of a cell's events, in order
abbrev pub letters : Cell → List Letter
letters c = map (λ k. (event_at c k).letter) (range_with_len 0 c.dim)
