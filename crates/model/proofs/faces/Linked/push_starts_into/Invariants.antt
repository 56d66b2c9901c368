use Rattle.std.proofs.Common.{◌≡◌, ◌++◌}
use Rattle.model.specs.Outgoing.{starts_into}
use Rattle.model.specs.Taken.{taken, capped}
use Rattle.model.proofs.faces.Linked.push_starts_into.Given as goal

abbrev pub invariant-loop-k : goal.invariant-loop-k
invariant-loop-k l = taken l.moves ≡ capped (taken l.initial.moves ++ starts_into l.self.cells.now l.c l.d l.k)
