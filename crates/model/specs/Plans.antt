-- A plan: the cells of a model and the number of the first one, apart from how a program holds them.
use Rattle.std.specs.Prelude.{ℕ, ◌<◌, ◌≤◌, List, length}
use Rattle.wire.specs.declared.cell.Cell.{Cell}
use Rattle.model.specs.Rules.{every_cell, faces_in, letters_ok, identity_ok, quiet_ok, few_ok}

pub record Plan : Type 0 where
  pub first : ℕ
  pub cells : List Cell

-- the rules that an accepted plan keeps
pub record Accepted (p : Plan) : Type 0 where
  pub small : length p.cells ≤ 200
  pub begins : p.first < length p.cells
  pub linked : every_cell faces_in p.cells
  pub lettered : every_cell letters_ok p.cells
  pub commuting : every_cell identity_ok p.cells
  pub quiet : every_cell (quiet_ok p.first) p.cells
  pub few : every_cell few_ok p.cells
