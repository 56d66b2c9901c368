use Rattle.std.proofs.Common.{map, sym, arith}
use Rattle.weight.specs.Bounds.{limit_of}
use Rattle.weight.proofs.Sizes.{small_within}
use Rattle.kinds_export.proofs.closing.kinds_close.Goals as goal

pub close-requires-clause-room : goal.close-requires-clause-room
close-requires-clause-room c = small_within (map limit_of c.args.m.now) 4194304 (omega arith) (sym c.if-not-all_small.ensures)
