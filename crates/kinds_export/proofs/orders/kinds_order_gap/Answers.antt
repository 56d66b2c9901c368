use Rattle.std.proofs.Common.{ap, ◌∙◌, to_z-of_z}
use Rattle.order_set.specs.Orders.{order_gap}
use Rattle.kinds_export.specs.Answers.{gap_of, told}
use Rattle.kinds_export.specs.Codes.{codes_of, set_of}
use Rattle.kinds_export.proofs.orders.kinds_order_gap.Goals as goal

pub returns : goal.returns
returns c =
    let a = c.args.set.now in
    let g = gap_of c.args.first c.args.second c.args.strict in
    let by-set = ap (λ s. order_gap s c.gap_of.result) c.from.ensures in
    let by-gap = ap (order_gap (set_of a)) c.gap_of.ensures ∙ ap (λ k. order_gap (set_of a) (g k)) (to_z-of_z c.ranges.constant) in
    c.put.ensures codes_of (λ s t h. h) ∙ ap (told codes_of a) (c.gap-result.ensures.same ∙ by-set ∙ by-gap)
