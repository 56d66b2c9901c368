use Rattle.std.proofs.Common.{ℕ, refl, ap, ◌∙◌, rules, arith}
use Rattle.std.specs.List.{range_with_len}
use Rattle.std.proofs.lemmas.Iterator.{YieldsList-from_range, YieldsList-from_map}
use Rattle.std.proofs.lemmas.Iterator.Consumers.{sum_by_from_yields_List, fits_by_from_yields_list}
use Rattle.docket_theory.specs.Docket.{open_one, open_steps}
use Rattle.docket_theory.specs.Worlds.{mark_at}
use Rattle.docket.specs.World.{world, fresh_docket}
use Rattle.docket.proofs.Counts.{counted, few_each}
use Rattle.docket.proofs.Steps.{one_open}
use Rattle.docket.proofs.entries.Entries.open_steps.Goals as goal

pub sum-requires-clause-fits : goal.sum-requires-clause-fits
sum-requires-clause-fits g c =
    let n = c.steps_out.result in
    let part : ℕ → ℕ = λ j. open_one (mark_at (world c.args.self.now c.args.marks.now fresh_docket) c.args.i j) in
    let few = few_each part 1 (λ j. one_open (mark_at (world c.args.self.now c.args.marks.now fresh_docket) c.args.i j)) n in
    fits_by_from_yields_list part (range_with_len 0 n) c.map.result _ (YieldsList-from_map _ part (YieldsList-from_range 0 n n (cc) (omega arith)) c.map.ensures.closure (λ x r q k. search rules)) (omega (arith, few, c.steps_out.ensures.few))

pub returns-clause-is : goal.returns-clause-is
unfolding open_steps
returns-clause-is g c = λ d.
    let n = c.steps_out.result in
    let part : ℕ → ℕ = λ j. open_one (mark_at (world c.args.self.now c.args.marks.now d) c.args.i j) in
    sum_by_from_yields_List part (range_with_len 0 n) c.map.result c.sum.result c.sum.ensures.ran (YieldsList-from_map _ part (YieldsList-from_range 0 n n (cc) (omega arith)) c.map.ensures.closure (λ x r q k. search rules))
    ∙ counted part (open_steps (world c.args.self.now c.args.marks.now d) c.args.i) refl (λ k. refl) n
    ∙ ap (open_steps (world c.args.self.now c.args.marks.now d) c.args.i) c.steps_out.ensures.is

pub returns-clause-few : goal.returns-clause-few
returns-clause-few g c =
    let n = c.steps_out.result in
    let part : ℕ → ℕ = λ j. open_one (mark_at (world c.args.self.now c.args.marks.now fresh_docket) c.args.i j) in
    let few = few_each part 1 (λ j. one_open (mark_at (world c.args.self.now c.args.marks.now fresh_docket) c.args.i j)) n in
    let is = sum_by_from_yields_List part (range_with_len 0 n) c.map.result c.sum.result c.sum.ensures.ran (YieldsList-from_map _ part (YieldsList-from_range 0 n n (cc) (omega arith)) c.map.ensures.closure (λ x r q k. search rules)) in
    omega (arith, is, few, c.steps_out.ensures.few)
