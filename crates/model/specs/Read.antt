-- Reading a model: its file, then the rules.
use Rattle.std.specs.Prelude.{ℕ, List, Some, None, Ok, Err, Option, Result}
use Rattle.slip.specs.declared.Slip.{Slip}
use Rattle.wire.specs.declared.cell.Cell.{Cell}
use Rattle.wire.specs.Files.{model_file}
use Rattle.model.specs.Accept.{model_fault}
use Rattle.model.specs.Plans.{Plan}

abbrev pub unless_fault : Option Slip → Plan → Result Plan Slip
unless_fault None p = Ok p
unless_fault (Some e) p = Err e

abbrev pub plan_from : Result (ℕ × List Cell) Slip → Result Plan Slip
plan_from (Ok f) = unless_fault (model_fault f.0 f.1) (record { first = f.0; cells = f.1 })
plan_from (Err e) = Err e

-- the plan that these bytes hold, or the slip that refuses them
abbrev pub read_plan : List ℕ → Result Plan Slip
read_plan s = plan_from (model_file s)
