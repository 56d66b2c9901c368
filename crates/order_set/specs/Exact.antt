-- What the calls of an order set mean, exactly. A reading has six counts and a scale is at least 1 throughout.
use Rattle.std.specs.Prelude.{◌≡◌, ℕ, ◌≤◌, Bool, true, false, ◌⊎◌, ◌↔◌, List, length, Ok, Err, Option, Result}
use Rattle.slip.specs.declared.Slip.{Slip}
use Rattle.clocks.specs.declared.Gap.{Gap}
use Rattle.clocks.specs.Gaps.{good_gap, good_mask}
use Rattle.clocks.specs.Readings.{Reading, in_mask, count_at, zero_reading}
use Rattle.clockset.specs.Laws.{bad_argument, Inside, Vacant, Alike}
use Rattle.weight.specs.declared.order_sign.OrderSign.{OrderSign}
use Rattle.weight.specs.declared.order_sign.OrderSign.TheVariants.{Below, AtMost, Free}
use Rattle.weight.specs.Closing.{empty_form}
use Rattle.weight.specs.Signs.{sign_leb, sign_plus, sign_limit}
use Rattle.zone_theory.specs.Exact.{Reset, Delay}
use Rattle.zone_theory.specs.Gaps.{gap_sign}
use Rattle.zone_theory.specs.Readings.{Obeys, Fine}
use Rattle.zone_theory.specs.Sets.{canonical_form}
use Rattle.order_set.specs.declared.OrderSet.{OrderSet}
use Rattle.order_set.specs.Orders.{limits, order_holds, sign_list, stored}

-- the one form of an order set without readings
abbrev pub empty_order : OrderSet
empty_order = stored (empty_form Below)

-- what comes out is closed, or the one empty form
abbrev pub Formed : Result OrderSet Slip → Type 0
Formed r = (b : OrderSet) → r ≡ Ok b → Fine (limits b) ⊎ (b ≡ empty_order)

-- the two clocks stand in the order that follows from the gap
abbrev pub Ordered : Gap → ℕ → Reading → Type 0
Ordered g s v = Obeys (sign_limit (gap_sign g)) s (count_at v g.first) (count_at v g.second)

abbrev pub GapExact : OrderSet → Gap → Result OrderSet Slip → Type 0
GapExact a g r = (b : OrderSet) → r ≡ Ok b → (s : ℕ) (v : Reading) → 1 ≤ s → length v ≡ 6 → order_holds b s v ↔ (order_holds a s v × Ordered g s v)

-- a reading belongs just when some whole multiple of it, at that multiple of the scale, comes from a reading before
abbrev pub ResetExact : OrderSet → ℕ → Result OrderSet Slip → Type 0
ResetExact a mask r = (b : OrderSet) → r ≡ Ok b → (s : ℕ) (v : Reading) → 1 ≤ s → length v ≡ 6 → order_holds b s v ↔ Reset (in_mask mask) (limits a) s v

abbrev pub DelayExact : OrderSet → Result OrderSet Slip → Type 0
DelayExact a r = (b : OrderSet) → r ≡ Ok b → (s : ℕ) (v : Reading) → 1 ≤ s → length v ≡ 6 → order_holds b s v ↔ Delay (limits a) s v

-- nothing but a bad argument is refused
abbrev pub Comes : Bool → Result OrderSet Slip → Type 0
Comes good r = (good ≡ true → (b : OrderSet) × (r ≡ Ok b)) × (good ≡ false → r ≡ Err bad_argument)

-- the meaning of each call, with its answer r
pub record GapStands (a : OrderSet) (g : Gap) (r : Result OrderSet Slip) : Type 0 where
  pub exact : GapExact a g r
  pub formed : Formed r
  pub comes : Comes (good_gap g) r

pub record ResetStands (a : OrderSet) (mask : ℕ) (r : Result OrderSet Slip) : Type 0 where
  pub exact : ResetExact a mask r
  pub formed : Formed r
  pub comes : Comes (good_mask mask) r

pub record DelayStands (a : OrderSet) (r : Result OrderSet Slip) : Type 0 where
  pub exact : DelayExact a r
  pub formed : Formed r
  pub comes : Comes true r

-- only the six zeros
abbrev pub ZeroExact : OrderSet → Type 0
ZeroExact a = (s : ℕ) (v : Reading) → 1 ≤ s → length v ≡ 6 → order_holds a s v ↔ (v ≡ zero_reading)

abbrev pub WithinExact : OrderSet → OrderSet → Bool → Type 0
WithinExact a b r = (r ≡ true) ↔ Inside order_holds a b

abbrev pub EmptyExact : OrderSet → Bool → Type 0
EmptyExact a r = (r ≡ true) ↔ Vacant order_holds a

-- the signs in closed form; a set without readings has none
abbrev pub closed_signs : OrderSet → Option (List OrderSign)
closed_signs a = canonical_form sign_leb sign_plus AtMost Free Below (sign_list a)

-- two order sets hold the same readings just when their closed signs are equal
abbrev pub Canonical : Type 0
Canonical = (a b : OrderSet) → Alike order_holds a b ↔ (closed_signs a ≡ closed_signs b)
