use Rattle.std.proofs.Common.{ℕ, Bool, refl, ap, ◌∙◌, rules, arith}
use Rattle.std.proofs.lemmas.Iterator.{YieldsList-from_range}
use Rattle.wire.specs.declared.cell.Cell.{Cell}
use Rattle.model.specs.Below.{all_below}
use Rattle.model.specs.Rules.{identity_ok, commutes_all}
use Rattle.model.proofs.Ranges.{all_from_range}
use Rattle.model.proofs.identity.IdentityRule.keeps.Goals as goal

pub returns : goal.returns
unfolding identity_ok
returns c =
    let test : ℕ → Bool = λ m. all_below m (commutes_all c.args.self.now.0.linked.cells.now c.args.i m) in
    all_from_range c.cell_at.result.now.dim test _ c.all.ensures.ran (YieldsList-from_range 0 _ _ refl (omega arith)) (λ m b q h. search rules) ∙ ap (λ (x : Cell). all_below x.dim test) c.cell_at.ensures
