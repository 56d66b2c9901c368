use Rattle.std.proofs.Common.{arith, ◌≡◌, sym, refl, ◌∙◌, subst}
use Rattle.order_set.specs.Exact.{WithinExact}
use Rattle.order_set.specs.Orders.{order_within}
use Rattle.order_set.specs.Facts.{signs_list, within_exactly}
use Rattle.order_set.proofs.OrderSetClockSet.within.Goals as goal

pub returns : goal.returns
returns c =
    let a = c.args.self.now in
    let b = c.args.other.now in
    let same : c.within_form.result ≡ order_within a b
    = c.within_form.ensures.says ∙ rw (signs_list a (omega arith), signs_list b (omega arith)) refl in
    record { same = same; exact = subst (WithinExact a b) (sym same) (within_exactly a b) }
