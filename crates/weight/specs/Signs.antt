-- The order and the sum of the three signs, and the limits that they stand for.
use Rattle.std.specs.Prelude.{Bool, true, false, pos}
use Rattle.weight.specs.Limits.{Limit, under, up_to, free}
use Rattle.weight.specs.declared.order_sign.OrderSign.{OrderSign}
use Rattle.weight.specs.declared.order_sign.OrderSign.TheVariants.{Below, AtMost, Free}

abbrev pub sign_leb : OrderSign → OrderSign → Bool
sign_leb Below Below = true
sign_leb Below AtMost = true
sign_leb Below Free = true
sign_leb AtMost Below = false
sign_leb AtMost AtMost = true
sign_leb AtMost Free = true
sign_leb Free Below = false
sign_leb Free AtMost = false
sign_leb Free Free = true

abbrev pub sign_plus : OrderSign → OrderSign → OrderSign
sign_plus Below Below = Below
sign_plus Below AtMost = Below
sign_plus Below Free = Free
sign_plus AtMost Below = Below
sign_plus AtMost AtMost = AtMost
sign_plus AtMost Free = Free
sign_plus Free Below = Free
sign_plus Free AtMost = Free
sign_plus Free Free = Free

abbrev pub sign_limit : OrderSign → Limit
sign_limit Below = under (pos 0)
sign_limit AtMost = up_to (pos 0)
sign_limit Free = free
