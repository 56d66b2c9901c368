-- The steps out of a cell, also of one that the model does not have.
use Rattle.std.proofs.Common.{◌≡◌, ℕ, zero, suc, ◌<◌, ◌≤◌, Bool, true, false, cond, eqb, ltb, List, [], ◌∷◌, length, get_or, vec_items, Some, None, Option, sym, refl, ◌∙◌, arith}
use Rattle.std.proofs.lemmas.List.{get_or_past, length-take-le}
use Rattle.std.proofs.lemmas.Option.{slice_get-get_or}
use Rattle.std.proofs.lemmas.Bool.{ltb-true, ltb-false, leb-true, ne_eqb}
use Rattle.std.specs.List.{slice_get}
use Rattle.std.specs.Option.{option_map, unwrap_or}
use Rattle.wire.specs.declared.cell.Cell.{Cell}
use Rattle.model.specs.declared.accepted.Model.{Model}
use Rattle.model.specs.declared.outgoing.Move.{Move}
use Rattle.model.specs.declared.outgoing.Move.TheVariants.{Wait}
use Rattle.model.specs.declared.outgoing.Moves.{Moves}
use Rattle.model.specs.Cells.{cell_at, face, blank_cell}
use Rattle.model.specs.Outgoing.{finishes, starts_into, starts_below, moves_out}
use Rattle.model.specs.Rules.{every_cell, faces_in, few_ok}
use Rattle.model.specs.Taken.{taken}
use Rattle.model.specs.Whole.{plan_of}
use Rattle.model.proofs.Below.{all_at}
use Rattle.model.proofs.Capped.{get_taken}
use Rattle.model.proofs.Within.{face_within}
use Rattle.docket_theory.specs.declared.Entry.{Entry}
use Rattle.docket_theory.specs.Docket.{steps_out, open_one, open_steps}
use Rattle.docket_theory.specs.Worlds.{World, open_mark, steps_per_entry, row_at, mark_at}

module _ (cells : List Cell) (linked : every_cell faces_in cells) (c : ℕ) (past : length cells ≤ c) where
  none_into : (d n : ℕ) → d < length cells → n ≤ (cell_at cells d).dim → starts_into cells c d n ≡ []
  unfolding starts_into
  none_into d zero here le = refl
  none_into d (suc n) here le =
      let lt = face_within cells false d n here (omega arith) linked in
      rw (none_into d n here (omega arith), ne_eqb (face cells false d n) c (omega arith))

  none_below : (n : ℕ) → n ≤ length cells → starts_below cells c n ≡ []
  unfolding starts_below
  none_below zero le = refl
  none_below (suc n) le = rw (none_below n (omega arith)) (none_into n (cell_at cells n).dim (omega arith) (omega arith))

  wait_only : moves_out cells c ≡ Wait ∷ []
  unfolding moves_out finishes
  wait_only = rw (get_or_past cells c blank_cell past, none_below (length cells) (omega arith))

-- the table that was found, or else the wait alone, is of the cell's steps
pub steps_or : (cells : List Cell) (c : ℕ) → every_cell faces_in cells → (o : Option Moves) (wait : Moves) → option_map taken o ≡ cond (ltb c (length cells)) (Some (moves_out cells c)) None → taken wait ≡ Wait ∷ [] → taken (unwrap_or o wait) ≡ moves_out cells c
steps_or cells c linked o wait h e = parts (ltb c (length cells)) o h (λ b. wait_only cells linked c (ltb-false c (length cells) b))
  where
    parts : (b : Bool) (x : Option Moves) → option_map taken x ≡ cond b (Some (moves_out cells c)) None → (b ≡ false → moves_out cells c ≡ Wait ∷ []) → taken (unwrap_or x wait) ≡ moves_out cells c
    parts true (Some x) is past = cc
    parts false (Some x) is past = let z : ◌≡◌ {A = ℕ} 0 1 = cc in absurd (omega arith)
    parts true None is past = let z : ◌≡◌ {A = ℕ} 0 1 = cc in absurd (omega arith)
    parts false None is past = e ∙ sym (past refl)

-- an accepted model has no more than sixteen of them
module _ {S : Type 0} (m : Model) where
  pub few_out : (from : Option (Entry S)) → steps_out (plan_of m) from ≤ steps_per_entry
  unfolding few_ok
  few_out None = omega arith
  few_out (Some e) = parts (ltb e.cell (length cells)) refl
    where
      cells : List Cell
      cells = vec_items m.cells

      parts : (b : Bool) → ltb e.cell (length cells) ≡ b → length (moves_out cells e.cell) ≤ 16
      parts true is = leb-true _ _ (all_at (length cells) e.cell (few_ok cells) m.few (ltb-true _ _ is))
      parts false is = rw (wait_only cells m.linked e.cell (ltb-false _ _ is)) (omega arith)

-- what a table of steps says of the list that it stands for
module _ (moves : Moves) (steps : List Move) (is : taken moves ≡ steps) where
  fits : moves.count ≤ length moves.list
  fits = omega (arith, moves.long, moves.most)

  pub listed_step : (j : ℕ) (d : Move) → j < moves.count → slice_get steps j ≡ Some (get_or moves.list j d)
  listed_step j d lt = rw (← is) (sym (get_taken moves.list moves.count j d fits lt))

  pub counted_steps : length steps ≡ moves.count
  counted_steps = rw (← is) (length-take-le moves.count moves.list fits)

-- and what a slice of them says
pub lent_step : (here steps : List Move) → here ≡ steps → (j : ℕ) (d : Move) → j < length here → slice_get steps j ≡ Some (get_or here j d)
lent_step here steps is j d lt = rw (← is) (slice_get-get_or here j d lt)

-- an open mark counts once, so no more steps are open than there are
pub one_open : (t : ℕ) → open_one t ≤ 1
one_open t = parts (eqb t open_mark)
  where
    parts : (b : Bool) → cond b 1 0 ≤ 1
    parts true = omega arith
    parts false = omega arith

pub few_open : {S : Type 0} (w : World S) (i n : ℕ) → open_steps w i n ≤ n
unfolding open_steps
few_open w i zero = omega arith
few_open w i (suc n) = omega (arith, few_open w i n, one_open (mark_at w i n))

pub few_entry : {S : Type 0} (m : Model) (w : World S) (i : ℕ) → open_steps w i (steps_out (plan_of m) (row_at w i)) ≤ steps_per_entry
few_entry m w i = omega (arith, few_open w i (steps_out (plan_of m) (row_at w i)), few_out m (row_at w i))
