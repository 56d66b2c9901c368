-- The steps out of a cell, in the order of their numbers: wait, the finishes by event, the starts by cell and then by event.
use Rattle.std.specs.Prelude.{ℕ, zero, suc, ◌+◌, false, cond, List, [], ◌∷◌, ◌++◌, length, ◌==◌}
use Rattle.wire.specs.declared.cell.Cell.{Cell}
use Rattle.model.specs.declared.outgoing.Move.{Move}
use Rattle.model.specs.declared.outgoing.Move.TheVariants.{Wait, Finish, Start}
use Rattle.model.specs.Cells.{cell_at, face}

-- finish event 1, .., finish event n
unfoldable pub finishes : ℕ → List Move
finishes zero = []
finishes (suc n) = finishes n ++ Finish (n + 1) ∷ []

-- the start from cell c by event n + 1 of cell d, if c is its lower face
abbrev pub start_at : List Cell → ℕ → ℕ → ℕ → List Move
start_at cells c d n = cond (face cells false d n == c) (Start d (n + 1) ∷ []) []

-- the starts from cell c into cell d by one of its first n events
unfoldable pub starts_into : List Cell → ℕ → ℕ → ℕ → List Move
starts_into cells c d zero = []
starts_into cells c d (suc n) = starts_into cells c d n ++ start_at cells c d n

-- the starts from cell c into the cells below n
unfoldable pub starts_below : List Cell → ℕ → ℕ → List Move
starts_below cells c zero = []
starts_below cells c (suc n) = starts_below cells c n ++ starts_into cells c n (cell_at cells n).dim

unfoldable pub moves_out : List Cell → ℕ → List Move
moves_out cells c = Wait ∷ (finishes (cell_at cells c).dim ++ starts_below cells c (length cells))
