use Rattle.std.proofs.Common.{arith, ◌≡◌, Ok, Err, Result, sym, refl, ap, ◌∙◌}
use Rattle.std.proofs.lemmas.Bool.{cond-true}
use Rattle.slip.specs.declared.Slip.{Slip}
use Rattle.clocks.specs.Gaps.{good_gap}
use Rattle.clockset.specs.Laws.{bad_argument}
use Rattle.order_set.specs.declared.OrderSet.{OrderSet}
use Rattle.order_set.specs.Orders.{stored, order_gap}
use Rattle.order_set.specs.Facts.{map_self, signs_list, cut_list, gap_stands}
use Rattle.order_set.proofs.OrderSetClockSet.gap.Goals as goal

pub returns : goal.returns
returns c =
    let a = c.args.self.now in
    let g = c.args.gap in
    let is : c.cut_form.new.m ≡ cut_list a g
    = sym (map_self c.cut_form.new.m) ∙ c.cut_form.ensures ∙ rw (signs_list a (omega arith), c.sign_of.ensures) refl in
    let same : ◌≡◌ {A = Result OrderSet Slip} (Ok (stored c.cut_form.new.m)) (order_gap a g)
    = ap (λ l. Ok (stored l)) is ∙ sym (cond-true (good_gap g) (Ok (stored (cut_list a g))) (Err bad_argument) (sym c.if-not-is_good_gap.ensures)) in
    record { same = same; exact = gap_stands a g (Ok (stored c.cut_form.new.m)) same }
