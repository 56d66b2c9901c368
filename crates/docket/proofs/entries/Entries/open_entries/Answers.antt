use Rattle.std.proofs.Common.{ℕ, ◌≤◌, refl, ◌∙◌, rules, arith}
use Rattle.std.specs.List.{range_with_len}
use Rattle.std.proofs.lemmas.Iterator.{YieldsList-from_range, YieldsList-from_map}
use Rattle.std.proofs.lemmas.Iterator.Consumers.{sum_by_from_yields_List, fits_by_from_yields_list}
use Rattle.model.specs.Whole.{plan_of}
use Rattle.docket_theory.specs.Docket.{steps_out, open_steps, open_entries}
use Rattle.docket_theory.specs.Worlds.{row_at, steps_per_entry}
use Rattle.docket.specs.declared.docket.Docket.{Docket}
use Rattle.docket.specs.World.{world, fresh_docket}
use Rattle.docket.proofs.Counts.{counted, few_each}
use Rattle.docket.proofs.Steps.{few_entry}
use Rattle.docket.proofs.entries.Entries.open_entries.Goals as goal

fits : Docket → goal.sum-requires-clause-fits
fits d g c =
    let m = c.args.model.now in
    let n = c.args.self.now.live in
    let w = world c.args.self.now c.args.marks.now d in
    let part : ℕ → ℕ = λ i. open_steps w i (steps_out (plan_of m) (row_at w i)) in
    let few = few_each part steps_per_entry (few_entry m w) n in
    let small : n ≤ 65535 = search rules in
    fits_by_from_yields_list part (range_with_len 0 n) c.map.result _ (YieldsList-from_map _ part (YieldsList-from_range 0 n n (cc) (omega arith)) c.map.ensures.closure (λ x r q k. search rules)) (omega (arith, few, small))

pub sum-requires-clause-fits : goal.sum-requires-clause-fits
sum-requires-clause-fits = fits fresh_docket

pub returns-clause-is : goal.returns-clause-is
unfolding open_entries
returns-clause-is g c = λ d.
    let m = c.args.model.now in
    let n = c.args.self.now.live in
    let w = world c.args.self.now c.args.marks.now d in
    let part : ℕ → ℕ = λ i. open_steps w i (steps_out (plan_of m) (row_at w i)) in
    sum_by_from_yields_List part (range_with_len 0 n) c.map.result c.sum.result c.sum.ensures.ran (YieldsList-from_map _ part (YieldsList-from_range 0 n n (cc) (omega arith)) c.map.ensures.closure (λ x r q k. search rules))
    ∙ counted part (open_entries (plan_of m) w) refl (λ k. refl) n

few_at : Docket → goal.returns-clause-few
few_at d g c =
    let m = c.args.model.now in
    let n = c.args.self.now.live in
    let w = world c.args.self.now c.args.marks.now d in
    let part : ℕ → ℕ = λ i. open_steps w i (steps_out (plan_of m) (row_at w i)) in
    let few = few_each part steps_per_entry (few_entry m w) n in
    let small : n ≤ 65535 = search rules in
    let is = sum_by_from_yields_List part (range_with_len 0 n) c.map.result c.sum.result c.sum.ensures.ran (YieldsList-from_map _ part (YieldsList-from_range 0 n n (cc) (omega arith)) c.map.ensures.closure (λ x r q k. search rules)) in
    omega (arith, is, few, small)

pub returns-clause-few : goal.returns-clause-few
returns-clause-few = few_at fresh_docket
