-- The model file, and beside it the trail file and the cover file.
use Rattle.std.specs.Prelude.{ℕ, List, [], ◌∷◌, ◌++◌, Ok, vec_items, Result}
use Rattle.slip.specs.declared.Slip.{Slip}
use Rattle.wire_fields.specs.Reading.{Parsed, ◌⨟◌, word_at, many}
use Rattle.wire_cells.specs.declared.cell.Cell.{Cell}
use Rattle.wire_cells.specs.CellFormat.{cell_at}
use Rattle.wire.specs.declared.model.ModelFile.{ModelFile}
pub use Rattle.wire_fields.specs.Reading.{value, sized, count_at, close_at}
pub use Rattle.wire_trail.specs.Trails.{added, trail_at, trail_file, trail_head, trail_seen}
unfoldable pub use Rattle.wire_trail.specs.Trails.{steps_at}
pub use Rattle.wire_cover.specs.Covers.{cover_at, cover_file, cover_head, entry_seen, cover_seen}
unfoldable pub use Rattle.wire_cover.specs.Covers.{entries_at}

unfoldable pub cells_at : ℕ → List ℕ → ℕ → Parsed (List Cell)
cells_at n s p = many (λ cs _ c. cs ++ c ∷ []) (λ _. cell_at) [] n s p

-- first cell and cells
abbrev pub model_at : List ℕ → Parsed (ℕ × List Cell)
model_at s =
    count_at 1 200 s 0 ⨟ λ n p. word_at s p ⨟ λ first q. cells_at n s q ⨟ λ cells r. close_at s r ⨟ λ _ t. Ok ((first, cells), t)

abbrev pub model_file : List ℕ → Result (ℕ × List Cell) Slip
model_file s = sized s (model_at s)

-- size, count and first cell, which are read before any memory is asked for
abbrev pub model_head : List ℕ → Result ℕ Slip
model_head s = sized s (count_at 1 200 s 0 ⨟ λ n p. word_at s p)

abbrev pub model_seen : ModelFile → ℕ × List Cell
model_seen f = (f.first, vec_items f.cells)
