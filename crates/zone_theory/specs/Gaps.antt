-- A gap as a limit, and as a sign: the order of two clocks that follows from it.
use Rattle.std.specs.Prelude.{zero, suc, ℤ, pos, negsuc}
use Rattle.clocks.specs.declared.Gap.{Gap}
use Rattle.clocks.specs.declared.Sign.{Sign}
use Rattle.clocks.specs.declared.Sign.TheVariants.{Below, AtMost}
use Rattle.weight.specs.Limits.{Limit, under, up_to}
use Rattle.weight.specs.declared.order_sign.OrderSign.{OrderSign}
use Rattle.weight.specs.declared.order_sign.OrderSign.TheVariants.{Below as Less, AtMost as NoMore, Free}

abbrev pub limit_by : Sign → ℤ → Limit
limit_by Below z = under z
limit_by AtMost z = up_to z

abbrev pub gap_limit : Gap → Limit
gap_limit g = limit_by g.sign g.constant

-- a negative constant puts the first clock below the second, zero keeps the gap's sign, and a positive one tells nothing
abbrev pub sign_by : Sign → ℤ → OrderSign
sign_by s (negsuc n) = Less
sign_by Below (pos zero) = Less
sign_by AtMost (pos zero) = NoMore
sign_by Below (pos (suc n)) = Free
sign_by AtMost (pos (suc n)) = Free

abbrev pub gap_sign : Gap → OrderSign
gap_sign g = sign_by g.sign g.constant
