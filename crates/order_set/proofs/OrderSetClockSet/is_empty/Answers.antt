use Rattle.std.proofs.Common.{arith, ◌≡◌, not, map, sym, ap, ◌∙◌, subst}
use Rattle.weight.specs.declared.order_sign.OrderSign.TheVariants.{Below, AtMost, Free}
use Rattle.weight.specs.Signs.{sign_leb, sign_plus}
use Rattle.zone_theory.specs.Sets.{empty_test}
use Rattle.order_set.specs.Exact.{EmptyExact}
use Rattle.order_set.specs.Orders.{order_empty}
use Rattle.order_set.specs.Facts.{signs_list, found_empty, empty_exactly}
use Rattle.order_set.proofs.OrderSetClockSet.is_empty.Goals as goal

pub returns : goal.returns
returns c =
    let a = c.args.self.now in
    let same : not c.canonicalize.result ≡ order_empty a
    = found_empty (map (λ x. x) a.signs) (map (λ x. x) c.canonicalize.new.m) c.canonicalize.result c.canonicalize.ensures.computed
    ∙ ap (empty_test sign_leb sign_plus AtMost Free Below) (signs_list a (omega arith)) in
    record { same = same; exact = subst (EmptyExact a) (sym same) (empty_exactly a) }
