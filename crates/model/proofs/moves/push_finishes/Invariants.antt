use Rattle.std.proofs.Common.{◌≡◌, ◌++◌}
use Rattle.model.specs.Outgoing.{finishes}
use Rattle.model.specs.Taken.{taken, capped}
use Rattle.model.proofs.moves.push_finishes.Given as goal

abbrev pub invariant-loop-k : goal.invariant-loop-k
invariant-loop-k l = taken l.moves ≡ capped (taken l.initial.moves ++ finishes l.k)
