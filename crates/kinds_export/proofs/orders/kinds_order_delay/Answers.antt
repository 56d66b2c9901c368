use Rattle.std.proofs.Common.{ap, ◌∙◌}
use Rattle.order_set.specs.Orders.{order_delay}
use Rattle.kinds_export.specs.Answers.{told}
use Rattle.kinds_export.specs.Codes.{codes_of}
use Rattle.kinds_export.proofs.orders.kinds_order_delay.Goals as goal

pub returns : goal.returns
returns c =
    c.put.ensures codes_of (λ s t h. h) ∙ ap (told codes_of c.args.set.now) (c.delay-result.ensures.same ∙ ap order_delay c.from.ensures)
