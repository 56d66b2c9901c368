-- A slip as a line of the report.
use Rattle.std.specs.Prelude.{ℕ, List, ◌++◌, codes, decimal}
use Rattle.slip.specs.declared.Slip.{Slip}
use Rattle.slip.specs.Refusals.{number, layer}

-- the bytes of `refused N layer L place P`
abbrev pub slip_line : Slip → List ℕ
slip_line s =
    codes "refused " ++ (decimal (number s.refusal) ++ (codes " layer " ++ (decimal (layer s.refusal) ++ (codes " place " ++ decimal s.place))))
