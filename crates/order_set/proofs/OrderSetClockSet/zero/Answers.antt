use Rattle.std.proofs.Common.{refl}
use Rattle.zone_theory.specs.Sets.{tabled}
use Rattle.order_set.specs.Facts.{zero_exact}
use Rattle.order_set.proofs.OrderSetClockSet.zero.Goals as goal

pub returns : goal.returns
unfolding tabled
returns c = record { same = refl; exact = zero_exact }
