-- Order sets, and what their calls answer. The functions compute.
use Rattle.std.specs.Prelude.{ℕ, ◌+◌, ◌*◌, Bool, cond, List, Ok, Err, Result, slice_index_or}
use Rattle.slip.specs.declared.Slip.{Slip}
use Rattle.clocks.specs.declared.Gap.{Gap}
use Rattle.clocks.specs.Gaps.{good_gap, good_mask}
use Rattle.clocks.specs.Readings.{Reading, in_mask}
use Rattle.clockset.specs.Calls.{Calls, Closings}
use Rattle.clockset.specs.Laws.{bad_argument}
use Rattle.weight.specs.declared.order_sign.OrderSign.{OrderSign}
use Rattle.weight.specs.declared.order_sign.OrderSign.TheVariants.{Below, AtMost, Free}
use Rattle.weight.specs.Limits.{Limit}
use Rattle.weight.specs.Signs.{sign_leb, sign_plus, sign_limit}
use Rattle.zone_theory.specs.Gaps.{gap_sign}
use Rattle.zone_theory.specs.Readings.{Holds}
use Rattle.zone_theory.specs.Sets.{tabled, view, tight, cut_form, reset_form, delay_form, within_form, empty_test}
use Rattle.order_set.specs.declared.OrderSet.{OrderSet}

-- the 49 signs of an order set, row by row
abbrev pub sign_list : OrderSet → List OrderSign
sign_list a = tabled (λ i j. slice_index_or a.signs (7 * i + j) Below)

-- a sign is a limit with the constant 0
abbrev pub limits : OrderSet → ℕ → ℕ → Limit
limits a = view sign_limit Free (sign_list a)

-- an order set holds the readings that its signs allow
abbrev pub order_holds : OrderSet → ℕ → Reading → Type 0
order_holds a s v = Holds (limits a) s v

abbrev pub stored : List OrderSign → OrderSet
stored xs = record { signs = xs }

abbrev pub order_all : OrderSet
order_all = stored (tabled (tight sign_leb sign_plus AtMost Free Below (λ i j. Free)))

abbrev pub order_zero : OrderSet
order_zero = stored (tabled (λ i j. AtMost))

-- the gap's sign is all that is kept of it
abbrev pub order_gap : OrderSet → Gap → Result OrderSet Slip
order_gap a g = cond (good_gap g) (Ok (stored (cut_form sign_leb sign_plus AtMost Free Below (sign_list a) g.first g.second (gap_sign g)))) (Err bad_argument)

abbrev pub order_reset : OrderSet → ℕ → Result OrderSet Slip
order_reset a mask = cond (good_mask mask) (Ok (stored (reset_form sign_leb sign_plus AtMost Free Below (in_mask mask) (sign_list a)))) (Err bad_argument)

abbrev pub order_delay : OrderSet → Result OrderSet Slip
order_delay a = Ok (stored (delay_form sign_leb sign_plus AtMost Free Below (sign_list a)))

abbrev pub order_within : OrderSet → OrderSet → Bool
order_within a b = within_form sign_leb sign_plus AtMost Free Below (sign_list a) (sign_list b)

abbrev pub order_empty : OrderSet → Bool
order_empty a = empty_test sign_leb sign_plus AtMost Free Below (sign_list a)

abbrev pub order_calls : Calls OrderSet
order_calls = record { all = order_all; zero = order_zero; gap = order_gap; reset = order_reset; delay = order_delay; within = order_within; empty = order_empty }

-- an order set is its own closed form
abbrev pub order_closings : Closings OrderSet
order_closings = record { closed = λ a. a; closed_within = order_within; closed_empty = order_empty }
