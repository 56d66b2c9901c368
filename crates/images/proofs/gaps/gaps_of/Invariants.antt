use Rattle.std.proofs.Common.{◌≡◌, take}
use Rattle.images.specs.Gaps.{gathered, gaps_to}
use Rattle.images.proofs.gaps.gaps_of.Given as goal

abbrev pub invariant-loop-n : goal.invariant-loop-n
invariant-loop-n l = gathered l.gaps ≡ take 12 (gaps_to l.cell l.n)
