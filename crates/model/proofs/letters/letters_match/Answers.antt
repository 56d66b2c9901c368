use Rattle.std.proofs.Common.{refl, rules, arith}
use Rattle.std.proofs.lemmas.Iterator.{YieldsList-from_range}
use Rattle.model.specs.Rules.{same_at}
use Rattle.model.proofs.Ranges.{all_from_range}
use Rattle.model.proofs.letters.letters_match.Goals as goal

pub returns : goal.returns
returns c =
    all_from_range c.args.face.now.dim (same_at c.args.face.now c.args.cell.now c.args.k) _ c.all.ensures.ran (YieldsList-from_range 0 _ _ refl (omega arith)) (λ j b q h. search rules)
