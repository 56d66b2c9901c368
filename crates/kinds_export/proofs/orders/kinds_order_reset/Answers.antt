use Rattle.std.proofs.Common.{ap, ◌∙◌}
use Rattle.order_set.specs.Orders.{order_reset}
use Rattle.kinds_export.specs.Answers.{told}
use Rattle.kinds_export.specs.Codes.{codes_of}
use Rattle.kinds_export.proofs.orders.kinds_order_reset.Goals as goal

pub returns : goal.returns
returns c =
    c.put.ensures codes_of (λ s t h. h) ∙ ap (told codes_of c.args.set.now) (c.reset-result.ensures.same ∙ ap (λ s. order_reset s c.args.mask) c.from.ensures)
