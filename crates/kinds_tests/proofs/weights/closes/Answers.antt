use Rattle.std.proofs.Common.{map, sym, arith}
use Rattle.weight.specs.Bounds.{limit_of}
use Rattle.weight.proofs.Sizes.{small_within}
use Rattle.kinds_tests.proofs.weights.closes.Goals as goal

pub close-requires : goal.close-requires
close-requires c = record { long = omega arith; room = small_within (map limit_of c.args.m.now) 4194304 (omega arith) (sym c.if-not-all_small.ensures) }
