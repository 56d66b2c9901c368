-- The list that a table of steps stands for.
use Rattle.std.specs.Prelude.{List, take}
use Rattle.model.specs.declared.outgoing.Move.{Move}
use Rattle.model.specs.declared.outgoing.Moves.{Moves}

abbrev pub taken : Moves → List Move
taken m = take m.count m.list

-- as much of a list of steps as a table has places for
unfoldable pub capped : List Move → List Move
capped xs = take 16 xs
