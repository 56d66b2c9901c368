use Rattle.std.proofs.Common.{sym, ap, ◌∙◌}
use Rattle.zone_theory.specs.Sets.{tabled}
use Rattle.order_set.specs.Orders.{stored}
use Rattle.order_set.specs.Facts.{map_self}
use Rattle.order_set.proofs.OrderSetClockSet.all.Goals as goal

pub returns : goal.returns
unfolding tabled
returns c = ap stored (sym (map_self c.tighten.new.m) ∙ c.tighten.ensures)
