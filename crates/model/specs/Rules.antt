-- The rules of an accepted model as tests: each takes all cells and the number of one cell.
use Rattle.std.specs.Prelude.{◌≡◌, ℕ, ◌+◌, ◌-◌, Bool, true, false, cond, not, ◌&&◌, ◌||◌, List, length, ◌==◌, nat_le, nat_lt}
use Rattle.wire.specs.declared.cell.Cell.{Cell}
use Rattle.wire.specs.declared.cell.Event.{Event}
use Rattle.wire.specs.declared.cell.Letter.{Letter}
use Rattle.wire.specs.declared.cell.Letter.TheVariants.{Barrier, Display, Read, Write, Sensor}
use Rattle.model.specs.Below.{all_below}
use Rattle.model.specs.Cells.{cell_at, event_at, face}
use Rattle.model.specs.Outgoing.{moves_out}

-- a number for each letter, to compare by
abbrev pub rank : Letter → ℕ
rank Barrier = 0
rank Display = 1
rank Read = 2
rank Write = 3
rank Sensor = 4

-- both faces of an event are below n
abbrev pub inside_of : ℕ → Event → Bool
inside_of n e = nat_lt e.lower n && nat_lt e.upper n

-- every face is a cell
unfoldable pub faces_in : List Cell → ℕ → Bool
faces_in cells i = all_below (cell_at cells i).dim (λ k. inside_of (length cells) (event_at (cell_at cells i) k))

-- the index, in a cell, of event j of its face k
abbrev pub past : ℕ → ℕ → ℕ
past k j = cond (nat_lt j k) j (j + 1)

-- event j of cell f has the letter that event j of a face k of cell c should have
abbrev pub same_at : Cell → Cell → ℕ → ℕ → Bool
same_at f c k j = rank (event_at f j).letter == rank (event_at c (past k j)).letter

-- cell f carries the letters of cell c without the one at k
unfoldable pub lacks : Cell → Cell → ℕ → Bool
lacks f c k = f.dim + 1 == c.dim && all_below f.dim (same_at f c k)

-- both faces k carry the cell's letters without the one at k
abbrev pub lacks_both : List Cell → ℕ → ℕ → Bool
lacks_both cells i k =
    lacks (cell_at cells (face cells false i k)) (cell_at cells i) k && lacks (cell_at cells (face cells true i k)) (cell_at cells i) k

unfoldable pub letters_ok : List Cell → ℕ → Bool
letters_ok cells i = all_below (cell_at cells i).dim (lacks_both cells i)

-- face k of face m is face m - 1 of face k; each of the two is lower or upper, and keeps it
abbrev pub commutes : List Cell → ℕ → ℕ → ℕ → Bool → Bool → Bool
commutes cells i k m a b = face cells a (face cells b i m) k == face cells b (face cells a i k) (m - 1)

unfoldable pub commutes_all : List Cell → ℕ → ℕ → ℕ → Bool
commutes_all cells i m k =
    commutes cells i k m false false && (commutes cells i k m false true && (commutes cells i k m true false && commutes cells i k m true true))

unfoldable pub identity_ok : List Cell → ℕ → Bool
identity_ok cells i = all_below (cell_at cells i).dim (λ m. all_below m (commutes_all cells i m))

-- the first cell and the final cells have no event
unfoldable pub quiet_ok : ℕ → List Cell → ℕ → Bool
quiet_ok first cells i = (cell_at cells i).dim == 0 || not (i == first || (cell_at cells i).last)

-- at most sixteen steps leave the cell
unfoldable pub few_ok : List Cell → ℕ → Bool
few_ok cells i = nat_le (length (moves_out cells i)) 16

abbrev pub every_cell : (List Cell → ℕ → Bool) → List Cell → Type 0
every_cell rule cells = all_below (length cells) (rule cells) ≡ true
