use Rattle.std.proofs.Common.{leb, rules, ◌∙◌}
use Rattle.std.proofs.lemmas.Iterator.{YieldsList-from_slice}
use Rattle.std.proofs.lemmas.Iterator.Search.{all_from_yields_List}
use Rattle.weight.specs.Bounds.{limit_of, limit_size}
use Rattle.weight.proofs.Sizes.{list_within}
use Rattle.weight.proofs.bound.all_within.Goals as goal
use borrow.Author.Tests.{tests}

pub returns : goal.returns
returns c =
    all_from_yields_List (λ b. leb (limit_size (limit_of b)) c.args.most) _ _ c.all.result c.all.ensures.ran (YieldsList-from_slice c.args.m.now cc) (λ x b q k. search (rules, tests))
    ∙ list_within c.args.most c.args.m.now
