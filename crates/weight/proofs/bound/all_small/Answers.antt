use Rattle.std.proofs.Common.{map, sym, ◌∙◌}
use Rattle.weight.specs.Bounds.{limit_of}
use Rattle.weight.proofs.Sizes.{small_is}
use Rattle.weight.proofs.bound.all_small.Goals as goal

pub returns : goal.returns
returns c = c.all_within.ensures ∙ sym (small_is (map limit_of c.args.m.now))
