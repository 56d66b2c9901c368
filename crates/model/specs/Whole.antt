-- A model as a whole: the plan that it holds, and what accepting a file comes to.
use Rattle.std.specs.Prelude.{◌≡◌, ℕ, Some, None, Ok, Err, vec_items, Result, Vec}
use Rattle.std.specs.declared.alloc.Global.{Global}
use Rattle.slip.specs.declared.Slip.{Slip}
use Rattle.wire.specs.declared.cell.Cell.{Cell}
use Rattle.model.specs.declared.accepted.Model.{Model}
use Rattle.model.specs.Accept.{model_fault}
use Rattle.model.specs.Plans.{Plan}

abbrev pub plan_of : Model → Plan
plan_of m = record { first = m.first; cells = vec_items m.cells }

-- the model with these cells, if they break no rule; else the first broken rule with its cell
abbrev pub Accepts : ℕ → Vec Cell Global → Result Model Slip → Type 0
Accepts first cells (Ok m) = (model_fault first (vec_items cells) ≡ None) × (m.cells ≡ cells) × (m.first ≡ first)
Accepts first cells (Err e) = model_fault first (vec_items cells) ≡ Some e
