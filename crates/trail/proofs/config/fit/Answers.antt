use Rattle.std.proofs.Common.{ℕ, ◌+◌, Bool, leb, ◌∙◌, rules}
use Rattle.std.proofs.lemmas.Iterator.{YieldsList-from_slice}
use Rattle.std.proofs.lemmas.Iterator.Search.{all_from_yields_List}
use Rattle.model.proofs.Ranges.{list_all_whole}
use Rattle.trail.specs.Tests.{fits}
use Rattle.trail.proofs.config.fit.Goals as goal

pub returns : goal.returns
unfolding fits
returns c =
    let test : ℕ → Bool = λ x. leb (x + c.args.n) 1000000000 in
    all_from_yields_List test _ _ c.all.result c.all.ensures.ran (YieldsList-from_slice c.args.counts.now cc) (λ x b q h. search rules)
    ∙ list_all_whole 6 test c.args.counts.now 0 c.told-counts
