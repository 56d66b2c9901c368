-- The world that a docket and the tables of its caller stand for.
use Rattle.std.specs.Prelude.{ℕ, List, [], None, Result}
use Rattle.slip.specs.declared.Slip.{Slip}
use Rattle.trail.specs.Calls.{Outcome}
use Rattle.docket_theory.specs.declared.Entry.{Entry}
use Rattle.docket_theory.specs.Worlds.{World, open_mark}
use Rattle.docket.specs.declared.docket.Docket.{Docket}
use Rattle.docket.specs.declared.entries.Entries.{Entries}

-- rows of which the first n are live, marks, and a docket
abbrev pub world_of : {S : Type 0} → List (Entry S) → ℕ → List ℕ → Docket → World S
world_of rows n marks d = record { rows = rows; marks = marks; live = n; opening = d.opening; trail = d.trail }

abbrev pub world : {S : Type 0} → Entries S → List ℕ → Docket → World S
world table marks d = world_of table.rows.now table.live marks d

-- with its rows and no live one it is the fresh world
abbrev pub fresh_docket : Docket
fresh_docket = record { opening = open_mark; trail = record { position = None } }

-- rows alone, for what looks at nothing else
abbrev pub rows_world : {S : Type 0} → List (Entry S) → ℕ → World S
rows_world rows n = world_of rows n [] fresh_docket

-- entries alone
abbrev pub entries_world : {S : Type 0} → Entries S → World S
entries_world table = rows_world table.rows.now table.live

-- what the trail makes of a call, with the opening mark as it was; the tables have no part in it
abbrev pub trailed : Outcome → Docket → Result (Unit {0}) Slip × Docket
trailed o d = (o.0, record { opening = d.opening; trail = o.1 })
