use Rattle.std.proofs.Common.{◌≡◌, Ok, Err, Result, sym, refl, ap, ◌∙◌, arith}
use Rattle.std.proofs.lemmas.Bool.{cond-true, lt-ltb}
use Rattle.slip.specs.declared.Slip.{Slip}
use Rattle.clocks.specs.Gaps.{good_mask}
use Rattle.clockset.specs.Laws.{bad_argument}
use Rattle.order_set.specs.declared.OrderSet.{OrderSet}
use Rattle.order_set.specs.Orders.{stored, order_reset}
use Rattle.order_set.specs.Facts.{map_self, signs_list, reset_list, reset_stands}
use Rattle.order_set.proofs.OrderSetClockSet.reset.Goals as goal

pub returns : goal.returns
returns c =
    let a = c.args.self.now in
    let mask = c.args.mask in
    let is : c.reset_form-signs.result ≡ reset_list a mask
    = sym (map_self c.reset_form-signs.result) ∙ c.reset_form-signs.ensures.made ∙ rw (signs_list a (omega arith)) refl in
    let same : ◌≡◌ {A = Result OrderSet Slip} (Ok (stored c.reset_form-signs.result)) (order_reset a mask)
    = ap (λ l. Ok (stored l)) is ∙ sym (cond-true (good_mask mask) (Ok (stored (reset_list a mask))) (Err bad_argument) (lt-ltb mask 64 (omega arith))) in
    record { same = same; exact = reset_stands a mask (Ok (stored c.reset_form-signs.result)) same }
