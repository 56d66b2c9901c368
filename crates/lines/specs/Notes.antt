-- What a call promises that notes lines and may be refused.
use Rattle.std.specs.Prelude.{◌≡◌, List, [], ◌∷◌, ◌++◌, Ok, Err, Result}
use Rattle.wire.specs.declared.fault.Fault.{Fault}
use Rattle.wire.specs.declared.fault.Fault.TheVariants.{Refused as Turned, Memory}
use Rattle.lines.specs.declared.Line.{Line}
use Rattle.lines.specs.declared.Line.TheVariants.{Refused}

-- From old the lines came to new, which is old and all. A refusal is the last line of all, and still to be noted; where memory is wanting,
-- nothing is said.
abbrev pub Notes : List Line → Result (Unit {0}) Fault → List Line → List Line → Type 0
Notes old (Ok u) new all = new ≡ old ++ all
Notes old (Err (Turned e)) new all = new ++ Refused e ∷ [] ≡ old ++ all
Notes old (Err Memory) new all = Unit {0}
