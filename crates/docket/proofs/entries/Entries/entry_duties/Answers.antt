use Rattle.std.proofs.Common.{ℕ, ◌≤◌, refl, ◌∙◌, rules, arith}
use Rattle.std.specs.List.{range_with_len}
use Rattle.std.proofs.lemmas.Iterator.{YieldsList-from_range, YieldsList-from_map}
use Rattle.std.proofs.lemmas.Iterator.Consumers.{sum_by_from_yields_List, fits_by_from_yields_list}
use Rattle.model.specs.Whole.{plan_of}
use Rattle.docket_theory.specs.Docket.{steps_out, entry_duties}
use Rattle.docket_theory.specs.Worlds.{row_in, steps_per_entry}
use Rattle.docket.specs.World.{world}
use Rattle.docket.proofs.Counts.{counted, few_each}
use Rattle.docket.proofs.Steps.{few_out}
use Rattle.docket.proofs.entries.Entries.entry_duties.Goals as goal

pub sum-requires-clause-fits : goal.sum-requires-clause-fits
sum-requires-clause-fits g c =
    let m = c.args.model.now in
    let n = c.args.self.now.live in
    let part : ℕ → ℕ = λ i. steps_out (plan_of m) (row_in c.args.self.now.rows.now n i) in
    let few = few_each part steps_per_entry (λ i. few_out m (row_in c.args.self.now.rows.now n i)) n in
    let small : n ≤ 65535 = search rules in
    fits_by_from_yields_list part (range_with_len 0 n) c.map.result _ (YieldsList-from_map _ part (YieldsList-from_range 0 n n (cc) (omega arith)) c.map.ensures.closure (λ x r q k. search rules)) (omega (arith, few, small))

pub returns-clause-is : goal.returns-clause-is
unfolding entry_duties
returns-clause-is g c = λ marks d.
    let m = c.args.model.now in
    let n = c.args.self.now.live in
    let part : ℕ → ℕ = λ i. steps_out (plan_of m) (row_in c.args.self.now.rows.now n i) in
    sum_by_from_yields_List part (range_with_len 0 n) c.map.result c.sum.result c.sum.ensures.ran (YieldsList-from_map _ part (YieldsList-from_range 0 n n (cc) (omega arith)) c.map.ensures.closure (λ x r q k. search rules))
    ∙ counted part (entry_duties (plan_of m) (world c.args.self.now marks d)) refl (λ k. refl) n

pub returns-clause-few : goal.returns-clause-few
returns-clause-few g c =
    let m = c.args.model.now in
    let n = c.args.self.now.live in
    let part : ℕ → ℕ = λ i. steps_out (plan_of m) (row_in c.args.self.now.rows.now n i) in
    let few = few_each part steps_per_entry (λ i. few_out m (row_in c.args.self.now.rows.now n i)) n in
    let small : n ≤ 65535 = search rules in
    let is = sum_by_from_yields_List part (range_with_len 0 n) c.map.result c.sum.result c.sum.ensures.ran (YieldsList-from_map _ part (YieldsList-from_range 0 n n (cc) (omega arith)) c.map.ensures.closure (λ x r q k. search rules)) in
    omega (arith, is, few, small)
