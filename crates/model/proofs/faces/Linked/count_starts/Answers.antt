use Rattle.std.proofs.Common.{◌≡◌, ℕ, ◌^◌, ◌≤◌, length, ◌∙◌, rules, arith}
use Rattle.std.specs.List.{range_with_len}
use Rattle.std.proofs.lemmas.Iterator.{YieldsList-from_range, YieldsList-from_map}
use Rattle.std.proofs.lemmas.Iterator.Adapters.{fits_from_length, at_most_from_yields_List}
use Rattle.std.proofs.lemmas.Iterator.Consumers.{sum_from_yields_List}
use Rattle.std.proofs.lemmas.List.FromFn.{length-range_with_len}
use Rattle.model.specs.Cells.{cell_at}
use Rattle.model.specs.Outgoing.{starts_into, starts_below}
use Rattle.model.proofs.Counts.{below_sum, below_most}
use Rattle.model.proofs.faces.Linked.count_starts.Goals as goal

pub sum-requires-clause-fits : goal.sum-requires-clause-fits
sum-requires-clause-fits c =
    let l = c.args.self.now in
    let n = length c.args.self.now.cells.now in
    let few : length (range_with_len 0 (length c.args.self.now.cells.now)) ≤ 200 = omega (arith, length-range_with_len 0 n, l.small) in
    fits_from_length _ _ 200 (2 ^ 64) (at_most_from_yields_List (YieldsList-from_range 0 n n (cc) (omega arith)) few) c.map.ensures.closure (omega arith) (λ x r q k. search rules)

pub returns : goal.returns
returns c =
    let l = c.args.self.now in
    let cells = l.cells.now in
    let n = length c.args.self.now.cells.now in
    let h : ℕ → ℕ = λ d. length (starts_into cells c.args.c d (cell_at cells d).dim) in
    let e : c.sum.result ≡ length (starts_below c.args.self.now.cells.now c.args.c (length c.args.self.now.cells.now)) =
    sum_from_yields_List c.map.result _ c.sum.ensures.ran (YieldsList-from_map _ h (YieldsList-from_range 0 n n (cc) (omega arith)) c.map.ensures.closure (λ x r q k. search rules)) ∙ below_sum cells c.args.c n in
    record { is = e; most = omega (arith, below_most cells c.args.c n, l.small) }
