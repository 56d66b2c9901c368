-- Order sets as 49 bytes.
use Rattle.std.specs.Prelude.{ℕ, ◌+◌, ◌*◌, cond, map, ◌==◌, slice_index_or}
use Rattle.weight.specs.declared.order_sign.OrderSign.{OrderSign}
use Rattle.weight.specs.declared.order_sign.OrderSign.TheVariants.{Below, AtMost, Free}
use Rattle.zone_theory.specs.Sets.{tabled}
use Rattle.order_set.specs.declared.OrderSet.{OrderSet}
use Rattle.kinds_export.specs.declared.orders.OrderCodes.{OrderCodes}

abbrev pub sign_of : ℕ → OrderSign
sign_of n = cond (n == 0) Below (cond (n == 1) AtMost Free)

abbrev pub code_of : OrderSign → ℕ
code_of Below = 0
code_of AtMost = 1
code_of Free = 2

unfoldable pub set_of : OrderCodes → OrderSet
set_of c = record { signs = map sign_of c.codes }

unfoldable pub codes_of : OrderSet → OrderCodes
codes_of a = record { codes = tabled (λ i j. code_of (slice_index_or a.signs (7 * i + j) Below)) }
