-- An image in two parts: what all steps out of an entry's cell share, and the rest.
use Rattle.std.specs.Prelude.{ℕ, Ok, Result}
use Rattle.slip.specs.declared.Slip.{Slip}
use Rattle.model.specs.declared.outgoing.Move.{Move}
use Rattle.model.specs.declared.outgoing.Move.TheVariants.{Wait, Finish, Start}
use Rattle.model.specs.Cells.{cell_at}
use Rattle.model.specs.Plans.{Plan}
use Rattle.clockset.specs.Calls.{Calls, Closings, ◌⨾◌}
use Rattle.docket_theory.specs.declared.Entry.{Entry}
use Rattle.docket_theory.specs.Images.{cut_by, target}
use Rattle.images.specs.declared.departure.Departure.{Departure}

-- inside the invariant of the entry's cell, and the same with the cell's exit set reset
abbrev pub departure : {S : Type 0} → Calls S → Plan → Entry S → Departure S
departure k m e =
    record {
      inside = cut_by k (cell_at m.cells e.cell) e.set;
      left = cut_by k (cell_at m.cells e.cell) e.set ⨾ λ a. k.reset a (cell_at m.cells e.cell).exits;
    }

abbrev pub onward : {S : Type 0} → Calls S → Departure S → Move → Result S Slip
onward k d Wait = d.inside ⨾ k.delay
onward k d (Finish e) = d.left
onward k d (Start c e) = d.left

-- the target's invariant cuts
abbrev pub image_from : {S : Type 0} → Calls S → Plan → ℕ → Departure S → Move → Result S Slip
image_from k m c d step = onward k d step ⨾ cut_by k (cell_at m.cells (target m c step))

-- the closed form of an image, if it comes
abbrev pub closed_form : {S : Type 0} → Closings S → Result S Slip → Result S Slip
closed_form f r = r ⨾ λ a. Ok (f.closed a)
