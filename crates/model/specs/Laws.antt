-- What the rules of an accepted plan say, in the words of precubical sets.
use Rattle.std.specs.Prelude.{◌≡◌, ℕ, ◌-◌, ◌<◌, ◌≤◌, Bool, true, ◌⊎◌, length}
use Rattle.std.specs.List.{remove}
use Rattle.model.specs.Cells.{cell_at, face, letters}
use Rattle.model.specs.Outgoing.{moves_out}
use Rattle.model.specs.Plans.{Plan}

pub record Lawful (p : Plan) : Type 0 where
  pub small : length p.cells ≤ 200
  pub begins : p.first < length p.cells
  -- every face is a cell
  pub linked : (upper : Bool) (i k : ℕ) → i < length p.cells → k < (cell_at p.cells i).dim → face p.cells upper i k < length p.cells
  -- face k carries the cell's letters without the k-th
  pub lettered : (upper : Bool) (i k : ℕ) → i < length p.cells → k < (cell_at p.cells i).dim → letters (cell_at p.cells (face p.cells upper i k)) ≡ remove (letters (cell_at p.cells i)) k
  -- for k below m, face k of face m is face m - 1 of face k
  pub commuting : (a b : Bool) (i k m : ℕ) → i < length p.cells → k < m → m < (cell_at p.cells i).dim → face p.cells a (face p.cells b i m) k ≡ face p.cells b (face p.cells a i k) (m - 1)
  -- the first cell and the final cells have no event
  pub quiet : (i : ℕ) → i < length p.cells → (i ≡ p.first) ⊎ ((cell_at p.cells i).last ≡ true) → (cell_at p.cells i).dim ≡ 0
  -- at most sixteen steps leave a cell
  pub few : (i : ℕ) → i < length p.cells → length (moves_out p.cells i) ≤ 16
