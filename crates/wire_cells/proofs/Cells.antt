-- Two cells with equal fields are equal, whatever shows that their events are few.
use Rattle.std.proofs.Common.{◌≡◌, ℕ, ◌≤◌, Bool, List}
use mathlib.Core.HLevel.{is_prop→PathP}
use native.Mathlib.Bridge.{le_prop}
use Rattle.wire_cells.specs.declared.cell.Event.{Event}
use Rattle.wire_ends.specs.declared.ends.Ends.{Ends}
use Rattle.wire_cells.specs.CellFormat.{bit, dim_of, dim_few, cell_of}

pub cell_is : (m dim exits : ℕ) (last : Bool) (events : List Event) (ends : List Ends) (h : dim ≤ 4) → dim ≡ dim_of m → last ≡ bit m 4
    → record { events = events; dim = dim; last = last; exits = exits; ends = ends; few = h } ≡ cell_of m events exits ends
cell_is m dim exits last events ends h e f =
    λ i. record { events = events; dim = e i; last = f i; exits = exits; ends = ends; few = is_prop→PathP (λ j. e j ≤ 4) (λ j. le_prop) h (dim_few m) i }
