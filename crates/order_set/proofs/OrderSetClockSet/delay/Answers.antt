use Rattle.std.proofs.Common.{arith, ◌≡◌, Ok, Result, sym, refl, ap, ◌∙◌}
use Rattle.slip.specs.declared.Slip.{Slip}
use Rattle.order_set.specs.declared.OrderSet.{OrderSet}
use Rattle.order_set.specs.Orders.{stored, order_delay}
use Rattle.order_set.specs.Facts.{map_self, signs_list, delay_list, delay_stands}
use Rattle.order_set.proofs.OrderSetClockSet.delay.Goals as goal

pub returns : goal.returns
returns c =
    let a = c.args.self.now in
    let is : c.delay_form.new.m ≡ delay_list a
    = sym (map_self c.delay_form.new.m) ∙ c.delay_form.ensures ∙ rw (signs_list a (omega arith)) refl in
    let same : ◌≡◌ {A = Result OrderSet Slip} (Ok (stored c.delay_form.new.m)) (order_delay a) = ap (λ l. Ok (stored l)) is in
    record { same = same; exact = delay_stands a (Ok (stored c.delay_form.new.m)) same }
