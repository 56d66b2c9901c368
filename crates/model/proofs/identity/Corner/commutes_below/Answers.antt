use Rattle.std.proofs.Common.{refl, rules, arith}
use Rattle.std.proofs.lemmas.Iterator.{YieldsList-from_range}
use Rattle.model.specs.Rules.{commutes_all}
use Rattle.model.proofs.Ranges.{all_from_range}
use Rattle.model.proofs.identity.Corner.commutes_below.Goals as goal

pub returns : goal.returns
returns c =
    let e = c.args.self.now.event in
    all_from_range e.k (commutes_all e.linked.cells.now e.i e.k) _ c.all.ensures.ran (YieldsList-from_range 0 _ _ refl (omega arith)) (λ k b q h. search rules)
