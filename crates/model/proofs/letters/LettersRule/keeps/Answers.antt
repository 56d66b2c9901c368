use Rattle.std.proofs.Common.{ℕ, Bool, refl, ap, ◌∙◌, rules, arith}
use Rattle.std.proofs.lemmas.Iterator.{YieldsList-from_range}
use Rattle.wire.specs.declared.cell.Cell.{Cell}
use Rattle.model.specs.Below.{all_below}
use Rattle.model.specs.Rules.{letters_ok, lacks_both}
use Rattle.model.proofs.Ranges.{all_from_range}
use Rattle.model.proofs.letters.LettersRule.keeps.Goals as goal

pub returns : goal.returns
unfolding letters_ok
returns c =
    let test : ℕ → Bool = lacks_both c.args.self.now.0.cells.now c.args.i in
    all_from_range c.cell_at.result.now.dim test _ c.all.ensures.ran (YieldsList-from_range 0 _ _ refl (omega arith)) (λ k b q h. search rules) ∙ ap (λ (x : Cell). all_below x.dim test) c.cell_at.ensures
