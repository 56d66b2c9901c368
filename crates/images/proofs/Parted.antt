-- An image is the same in one part and in two.
use Rattle.std.proofs.Common.{◌≡◌, sym}
use Rattle.model.specs.declared.outgoing.Move.{Move}
use Rattle.model.specs.declared.outgoing.Move.TheVariants.{Wait, Finish, Start}
use Rattle.model.specs.Cells.{cell_at}
use Rattle.model.specs.Plans.{Plan}
use Rattle.clockset.specs.Calls.{Calls}
use Rattle.clockset.proofs.Chained.{bind_assoc}
use Rattle.docket_theory.specs.declared.Entry.{Entry}
use Rattle.docket_theory.specs.Images.{cut_by, target, image}
use Rattle.images.specs.Departures.{departure, image_from}

module _ {S : Type 0} (k : Calls S) (m : Plan) (e : Entry S) where
  pub image_parts : (step : Move) → image_from k m e.cell (departure k m e) step ≡ image k m e.cell e.set step
  image_parts Wait = sym (bind_assoc (cut_by k (cell_at m.cells e.cell) e.set) k.delay (cut_by k (cell_at m.cells e.cell)))
  image_parts (Finish x) =
      sym (bind_assoc (cut_by k (cell_at m.cells e.cell) e.set) (λ a. k.reset a (cell_at m.cells e.cell).exits) (cut_by k (cell_at m.cells (target m e.cell (Finish x)))))
  image_parts (Start d x) =
      sym (bind_assoc (cut_by k (cell_at m.cells e.cell) e.set) (λ a. k.reset a (cell_at m.cells e.cell).exits) (cut_by k (cell_at m.cells (target m e.cell (Start d x)))))
