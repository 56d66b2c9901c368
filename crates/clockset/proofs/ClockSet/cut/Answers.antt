use Rattle.std.proofs.Common.{refl, rules}
use Rattle.std.proofs.lemmas.Iterator.{YieldsList-from_slice}
use Rattle.clockset.specs.Calls.{cut_all}
use Rattle.clockset.proofs.Chained.{folded}
use Rattle.clockset.proofs.ClockSet.cut.Goals as goal
use borrow.Author.Tests.{tests}

pub returns : goal.returns
returns g c =
    let k = g.Self.ClockSet.calls in
    folded c.try_fold.new.self _ c.args.self.now c.try_fold.result c.try_fold.ensures.ran (YieldsList-from_slice c.args.gaps.now cc) (cut_all k) (λ x a. k.gap a x) (λ w. refl) (λ x xs w. refl) (λ w x r q h. search (rules, tests))
