-- What limits keep beside the laws of weights, and the laws of signs.
use Rattle.std.proofs.Common.{◌≡◌, Bool, true, false, ◌⊎◌, refl, inl, inr, arith}
use borrow.Author.Differences.{ints}
use Rattle.weight.specs.Limits.{Limit, free, limit_leb}
use Rattle.weight.specs.Signs.{sign_leb, sign_plus}
use Rattle.weight.specs.declared.order_sign.OrderSign.{OrderSign}
use Rattle.weight.specs.declared.order_sign.OrderSign.TheVariants.{Below, AtMost, Free}
use Rattle.weight.specs.Weights.{Laws}

pub limit_flip : (x y : Limit) → limit_leb x y ≡ false → limit_leb y x ≡ true
limit_flip x y e = grind (arith, ints)

pub limit_top : (x : Limit) → limit_leb x free ≡ true
limit_top x = grind arith

sign_anti : (x y : OrderSign) → sign_leb x y ≡ true → sign_leb y x ≡ true → x ≡ y
sign_anti x y p q = grind arith

sign_total_by : (x y : OrderSign) (r : Bool) → sign_leb x y ≡ r → (sign_leb x y ≡ true) ⊎ (sign_leb y x ≡ true)
sign_total_by x y true e = inl e
sign_total_by x y false e = inr (grind arith)

-- signs are weights too
pub sign_laws : Laws sign_leb sign_plus AtMost Free Below
sign_laws = record {
  self = λ x. grind arith;
  trans = λ x y z p q. grind arith;
  anti = sign_anti;
  total = λ x y. sign_total_by x y (sign_leb x y) refl;
  assoc = λ x y z. grind arith;
  left = λ x. grind arith;
  right = λ x. grind arith;
  keeps = λ x y u v p q. grind arith;
  top = λ x. grind arith;
  lost = refl;
}
