-- What a docket holds, with the two tables of its caller. A row past a table is none, and a mark past it is open, so that every
-- definition is total.
use Rattle.std.specs.Prelude.{ℕ, ◌+◌, ◌*◌, ◌/◌, min, cond, List, length, None, Option, nat_lt, slice_index_or}
use Rattle.std.specs.List.{slice_get}
use Rattle.trail.specs.declared.position.Trail.{Trail}
use Rattle.docket_theory.specs.declared.Entry.{Entry}

-- the mark of a duty that is not settled, and of one whose image is empty; any other mark is the holding entry's number
abbrev pub open_mark : ℕ
open_mark = 65535

abbrev pub empty_mark : ℕ
empty_mark = 65534

-- how many marks an entry has, one for each step out of its cell
abbrev pub steps_per_entry : ℕ
steps_per_entry = 16

abbrev pub most_entries : ℕ
most_entries = 256

-- the caller's entries and marks, how many entries are live, the opening duty's mark, and the trail
pub record World (S : Type 0) : Type 0 where
  pub rows : List (Entry S)
  pub marks : List ℕ
  pub live : ℕ
  pub opening : ℕ
  pub trail : Trail

-- no entries, an open opening mark, no trail
abbrev pub fresh : {S : Type 0} → List (Entry S) → List ℕ → World S
fresh rows marks = record { rows = rows; marks = marks; live = 0; opening = open_mark; trail = record { position = None } }

-- row i of a table whose first n rows are live
abbrev pub row_in : {S : Type 0} → List (Entry S) → ℕ → ℕ → Option (Entry S)
row_in rows n i = cond (nat_lt i n) (slice_get rows i) None

-- the live entry i
abbrev pub row_at : {S : Type 0} → World S → ℕ → Option (Entry S)
row_at w i = row_in w.rows w.live i

-- where the mark of step j of entry i stands
abbrev pub mark_place : ℕ → ℕ → ℕ
mark_place i j = i * steps_per_entry + j

abbrev pub mark_at : {S : Type 0} → World S → ℕ → ℕ → ℕ
mark_at w i j = slice_index_or w.marks (mark_place i j) open_mark

-- as many entries as both tables have places for
abbrev pub capacity : {S : Type 0} → World S → ℕ
capacity w = min most_entries (min (length w.rows) (length w.marks / steps_per_entry))
