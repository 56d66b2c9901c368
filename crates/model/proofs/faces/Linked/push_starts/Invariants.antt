use Rattle.std.proofs.Common.{◌≡◌, ◌++◌}
use Rattle.model.specs.Outgoing.{starts_below}
use Rattle.model.specs.Taken.{taken, capped}
use Rattle.model.proofs.faces.Linked.push_starts.Given as goal

abbrev pub invariant-loop-d : goal.invariant-loop-d
invariant-loop-d l = taken l.moves ≡ capped (taken l.initial.moves ++ starts_below l.self.cells.now l.c l.d)
