use Rattle.std.proofs.Common.{◌≡◌, ℕ, Bool, true, false, ap, ◌∙◌, rules}
use Rattle.std.proofs.lemmas.Iterator.{first_from_Range}
use Rattle.model.specs.Below.{first_bad}
use Rattle.model.proofs.Ranges.{bad_from_first}
use Rattle.model.proofs.rule.lowest.Goals as goal

pub returns : goal.returns
returns g c =
    let test : ℕ → Bool = g.R.Rule.test c.args.rule.now in
    bad_from_first _ test c.find.result
    (first_from_Range _ _ _ c.find.result (λ k. test k ≡ false) (λ k. test k ≡ true) c.find.ensures.ran (λ k q h. search rules) (λ k q h. search rules))
    ∙ ap (λ (n : ℕ). first_bad n test) c.count.ensures
