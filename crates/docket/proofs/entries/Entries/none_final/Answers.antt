use Rattle.std.proofs.Common.{ℕ, Bool, not, refl, ◌∙◌, rules, arith}
use Rattle.std.proofs.lemmas.Iterator.{YieldsList-from_range}
use Rattle.std.proofs.lemmas.Iterator.Search.{all_from_yields_List}
use Rattle.model.specs.Whole.{plan_of}
use Rattle.model.proofs.Ranges.{list_all_below}
use Rattle.docket_theory.specs.Docket.{final_row}
use Rattle.docket_theory.specs.Worlds.{row_in}
use Rattle.docket.proofs.entries.Entries.none_final.Goals as goal

pub returns : goal.returns
returns g c =
    let n = c.args.self.now.live in
    let test : ℕ → Bool = λ i. not (final_row (plan_of c.args.model.now) (row_in c.args.self.now.rows.now n i)) in
    all_from_yields_List test _ _ c.all.result c.all.ensures.ran (YieldsList-from_range 0 n n refl (omega arith)) (λ k b q h. search rules)
    ∙ list_all_below n test
