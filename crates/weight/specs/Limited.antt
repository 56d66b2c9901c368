-- The laws of limits, of signs, and that signs are limits at zero.
use Rattle.std.specs.Prelude.{◌≡◌, ◌+◌, ◌≤◌, true, ◌⊎◌, pos, refl}
use Rattle.std.proofs.Common.{ap, arith}
use Rattle.std.proofs.lemmas.Int.{ints}
use Rattle.weight.specs.Weights.{Laws}
use Rattle.weight.specs.Limits.{Limit, under, up_to, free, limit_leb, limit_plus}
use Rattle.weight.specs.Bounds.{limit_size}
use Rattle.weight.specs.Signs.{sign_leb, sign_plus, sign_limit}
use Rattle.weight.specs.declared.order_sign.OrderSign.{OrderSign}
use Rattle.weight.specs.declared.order_sign.OrderSign.TheVariants.{AtMost}

limit_self : (x : Limit) → limit_leb x x ≡ true
limit_self x = grind (arith, ints)

limit_trans : (x y z : Limit) → limit_leb x y ≡ true → limit_leb y z ≡ true → limit_leb x z ≡ true
limit_trans x y z = grind (arith, ints)

limit_anti : (x y : Limit) → limit_leb x y ≡ true → limit_leb y x ≡ true → x ≡ y
limit_anti x y = grind (arith, ints)

limit_total : (x y : Limit) → (limit_leb x y ≡ true) ⊎ (limit_leb y x ≡ true)
limit_total x y = grind (arith, ints)

limit_left : (x : Limit) → limit_plus (up_to (pos 0)) x ≡ x
limit_left (under z) = ap under (omega (arith, ints))
limit_left (up_to z) = ap up_to (omega (arith, ints))
limit_left free = refl

limit_right : (x : Limit) → limit_plus x (up_to (pos 0)) ≡ x
limit_right (under z) = ap under (omega (arith, ints))
limit_right (up_to z) = ap up_to (omega (arith, ints))
limit_right free = refl

limit_keeps : (x y u v : Limit) → limit_leb x y ≡ true → limit_leb u v ≡ true → limit_leb (limit_plus x u) (limit_plus y v) ≡ true
limit_keeps x y u v = grind (arith, ints)

limit_top : (x : Limit) → limit_leb x free ≡ true
limit_top (under z) = refl
limit_top (up_to z) = refl
limit_top free = refl

pub limit_grows : (x y : Limit) → limit_size (limit_plus x y) ≤ limit_size x + limit_size y
limit_grows x y = grind (arith, ints)

limit_assoc : (x y z : Limit) → limit_plus (limit_plus x y) z ≡ limit_plus x (limit_plus y z)
limit_assoc (under a) (under b) (under c) = ap under (omega (arith, ints))
limit_assoc (under a) (under b) (up_to c) = ap under (omega (arith, ints))
limit_assoc (under a) (up_to b) (under c) = ap under (omega (arith, ints))
limit_assoc (under a) (up_to b) (up_to c) = ap under (omega (arith, ints))
limit_assoc (up_to a) (under b) (under c) = ap under (omega (arith, ints))
limit_assoc (up_to a) (under b) (up_to c) = ap under (omega (arith, ints))
limit_assoc (up_to a) (up_to b) (under c) = ap under (omega (arith, ints))
limit_assoc (up_to a) (up_to b) (up_to c) = ap up_to (omega (arith, ints))
limit_assoc (under a) (under b) free = refl
limit_assoc (under a) (up_to b) free = refl
limit_assoc (up_to a) (under b) free = refl
limit_assoc (up_to a) (up_to b) free = refl
limit_assoc (under a) free (under c) = refl
limit_assoc (under a) free (up_to c) = refl
limit_assoc (under a) free free = refl
limit_assoc (up_to a) free (under c) = refl
limit_assoc (up_to a) free (up_to c) = refl
limit_assoc (up_to a) free free = refl
limit_assoc free (under b) (under c) = refl
limit_assoc free (under b) (up_to c) = refl
limit_assoc free (under b) free = refl
limit_assoc free (up_to b) (under c) = refl
limit_assoc free (up_to b) (up_to c) = refl
limit_assoc free (up_to b) free = refl
limit_assoc free free (under c) = refl
limit_assoc free free (up_to c) = refl
limit_assoc free free free = refl

pub limit_laws : Laws limit_leb limit_plus (up_to (pos 0)) free (under (pos 0))
limit_laws =
    record {
      self = limit_self;
      trans = limit_trans;
      anti = limit_anti;
      total = limit_total;
      assoc = limit_assoc;
      left = limit_left;
      right = limit_right;
      keeps = limit_keeps;
      top = limit_top;
      lost = refl;
    }

-- a sign's limit keeps the order, the sum and neutral
pub sign_leb_is : (x y : OrderSign) → limit_leb (sign_limit x) (sign_limit y) ≡ sign_leb x y
sign_leb_is x y = grind arith

pub sign_plus_is : (x y : OrderSign) → limit_plus (sign_limit x) (sign_limit y) ≡ sign_limit (sign_plus x y)
sign_plus_is x y = grind arith

pub sign_neutral : sign_limit AtMost ≡ up_to (pos 0)
sign_neutral = refl
