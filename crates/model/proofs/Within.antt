-- What the faces rule says of one face.
use Rattle.std.proofs.Common.{◌≡◌, ℕ, ◌+◌, ◌<◌, Bool, true, false, ltb, List, length}
use Rattle.std.proofs.lemmas.Bool.{and_parts, ltb-true, eqb-true}
use Rattle.wire.specs.declared.cell.Cell.{Cell}
use Rattle.model.specs.Cells.{cell_at, event_at, face}
use Rattle.model.specs.Rules.{faces_in, inside_of, every_cell, letters_ok, lacks, lacks_both}
use Rattle.model.proofs.Below.{all_at}

pub face_within : (cells : List Cell) (upper : Bool) (i k : ℕ) → i < length cells → k < (cell_at cells i).dim → every_cell faces_in cells → face cells upper i k < length cells
unfolding faces_in
face_within cells upper i k here event linked = side upper
  where
    inside : inside_of (length cells) (event_at (cell_at cells i) k) ≡ true
    inside = all_at _ k _ (all_at (length cells) i (faces_in cells) linked here) event

    both : ((event_at (cell_at cells i) k).lower < length cells) × ((event_at (cell_at cells i) k).upper < length cells)
    both = let p = and_parts (ltb (event_at (cell_at cells i) k).lower (length cells)) (ltb (event_at (cell_at cells i) k).upper (length cells)) inside in (ltb-true _ _ p.0, ltb-true _ _ p.1)

    side : (b : Bool) → face cells b i k < length cells
    side true = both.1
    side false = both.0

-- what the letters rule says of the number of a face's events
pub face_dim : (cells : List Cell) (upper : Bool) (i k : ℕ) → i < length cells → k < (cell_at cells i).dim → every_cell letters_ok cells → (cell_at cells (face cells upper i k)).dim + 1 ≡ (cell_at cells i).dim
unfolding letters_ok lacks
face_dim cells upper i k here event lettered = side upper
  where
    both : (lacks (cell_at cells (face cells false i k)) (cell_at cells i) k ≡ true) × (lacks (cell_at cells (face cells true i k)) (cell_at cells i) k ≡ true)
    both = and_parts _ _ (all_at (cell_at cells i).dim k (lacks_both cells i) (all_at (length cells) i (letters_ok cells) lettered here) event)

    side : (b : Bool) → (cell_at cells (face cells b i k)).dim + 1 ≡ (cell_at cells i).dim
    side true = eqb-true _ _ (and_parts _ _ both.1).0
    side false = eqb-true _ _ (and_parts _ _ both.0).0
