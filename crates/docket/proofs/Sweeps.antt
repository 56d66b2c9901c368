-- The turns of a sweep.
use Rattle.std.proofs.Common.{◌≡◌, ℕ, ◌+◌, ◌<◌, cond, eqb, List, get_or, set, Some, sym, ◌∙◌, subst, add-one, arith}
use Rattle.std.proofs.lemmas.List.{set-get_or}
use Rattle.std.proofs.lemmas.Bool.{ne_eqb}
use Rattle.std.specs.List.{slice_get}
use Rattle.model.specs.declared.outgoing.Move.{Move}
use Rattle.model.specs.Outgoing.{moves_out}
use Rattle.model.specs.Plans.{Plan}
use Rattle.clockset.specs.Calls.{Calls}
use Rattle.docket_theory.specs.declared.Duty.TheVariants.{Leave}
use Rattle.docket_theory.specs.declared.Entry.{Entry}
use Rattle.docket_theory.specs.Docket.{swept_mark, duty_swept, steps_swept}
use Rattle.docket_theory.specs.Worlds.{World, open_mark, row_in, mark_place}
use Rattle.docket.specs.declared.docket.Docket.{Docket}
use Rattle.docket.specs.World.{world_of, rows_world}

-- a mark that is not open stays
pub settled_stays : (marks : List ℕ) (p x t : ℕ) → t ≡ get_or marks p open_mark → (t ≡ open_mark → ⊥) → marks ≡ set marks p (cond (eqb (get_or marks p open_mark) open_mark) x (get_or marks p open_mark))
settled_stays marks p x t is ne =
    rw (ne_eqb (get_or marks p open_mark) open_mark (λ e. ne (is ∙ e))) (sym (set-get_or marks p open_mark))

module _ {S : Type 0} (k : Calls S) (m : Plan) (rows : List (Entry S)) (live i : ℕ) (d : Docket) (start : World S) where
  pub step_more : (j : ℕ) (marks after : List ℕ) (e : Entry S) (step : Move) → i < open_mark → Some e ≡ row_in rows live i → slice_get (moves_out m.cells e.cell) j ≡ Some step → after ≡ set marks (mark_place i j) (swept_mark k m (rows_world rows live) (Some (Leave e step)) (get_or marks (mark_place i j) open_mark)) → world_of rows live marks d ≡ steps_swept k m i j start → world_of rows live after d ≡ steps_swept k m i (j + 1) start
  unfolding steps_swept
  step_more j marks after e step lt here is put so_far =
      rw add-one (subst (λ w. world_of rows live after d ≡ duty_swept k m i j w) so_far (rw (ne_eqb i open_mark (omega arith), ← here, is, put)))
