-- What the calls of a zone mean, exactly. A reading has six counts and a scale is at least 1 throughout.
use Rattle.std.specs.Prelude.{◌≡◌, ℕ, ◌≤◌, Bool, true, false, ◌⊎◌, ◌↔◌, length, pos, Ok, Err, Result}
use Rattle.slip.specs.declared.Slip.{Slip}
use Rattle.clocks.specs.declared.Gap.{Gap}
use Rattle.clocks.specs.Gaps.{ObeysGap, good_gap, good_mask}
use Rattle.clocks.specs.Readings.{Reading, in_mask, zero_reading}
use Rattle.clockset.specs.Laws.{bad_argument, bound_too_large, Inside, Vacant}
use Rattle.weight.specs.Closing.{empty_form}
use Rattle.weight.specs.Limits.{Limit, under}
use Rattle.zone_theory.specs.Exact.{Closes, Reset, Delay}
use Rattle.zone_theory.specs.Gaps.{gap_limit}
use Rattle.zone_theory.specs.Matrices.{cut_limits, reset_limits, delay_limits, Large}
use Rattle.zone_theory.specs.Readings.{Fine}
use Rattle.zone.specs.declared.Zone.{Zone}
use Rattle.zone.specs.Zones.{limits, zone_holds, stored}

-- the one form of a zone without readings
abbrev pub empty_zone : Zone
empty_zone = stored (empty_form (under (pos 0)))

-- each zone that comes out is closed, or the one empty form
abbrev pub Formed : Result Zone Slip → Type 0
Formed r = (b : Zone) → r ≡ Ok b → Fine (limits b) ⊎ (b ≡ empty_zone)

-- just the readings that obey the gap are left
abbrev pub GapExact : Zone → Gap → Result Zone Slip → Type 0
GapExact z g r = (b : Zone) → r ≡ Ok b → (s : ℕ) (v : Reading) → 1 ≤ s → length v ≡ 6 → zone_holds b s v ↔ (zone_holds z s v × ObeysGap g s v)

-- a reading belongs just when some whole multiple of it, at that multiple of the scale, comes from a reading before
abbrev pub ResetExact : Zone → ℕ → Result Zone Slip → Type 0
ResetExact z mask r = (b : Zone) → r ≡ Ok b → (s : ℕ) (v : Reading) → 1 ≤ s → length v ≡ 6 → zone_holds b s v ↔ Reset (in_mask mask) (limits z) s v

abbrev pub DelayExact : Zone → Result Zone Slip → Type 0
DelayExact z r = (b : Zone) → r ≡ Ok b → (s : ℕ) (v : Reading) → 1 ≤ s → length v ≡ 6 → zone_holds b s v ↔ Delay (limits z) s v

-- bad arguments, and they alone, are refused as such
abbrev pub BadWhen : Bool → Result Zone Slip → Type 0
BadWhen good r = (r ≡ Err bad_argument) ↔ (good ≡ false)

-- refused as too large just when the result has a reading, and a bound of its closed form is large
abbrev pub GapLarge : Zone → Gap → Result Zone Slip → Type 0
GapLarge z g r = (r ≡ Err bound_too_large) ↔ ((good_gap g ≡ true) × ((new : ℕ → ℕ → Limit) × Closes (cut_limits (limits z) g.first g.second (gap_limit g)) new × Large new))

abbrev pub ResetLarge : Zone → ℕ → Result Zone Slip → Type 0
ResetLarge z mask r = (r ≡ Err bound_too_large) ↔ ((good_mask mask ≡ true) × ((new : ℕ → ℕ → Limit) × Closes (limits z) new × Large (reset_limits (in_mask mask) new)))

abbrev pub DelayLarge : Zone → Result Zone Slip → Type 0
DelayLarge z r = (r ≡ Err bound_too_large) ↔ ((new : ℕ → ℕ → Limit) × Closes (limits z) new × Large (delay_limits new))

-- the meaning of each call, with its answer r
pub record GapStands (z : Zone) (g : Gap) (r : Result Zone Slip) : Type 0 where
  pub exact : GapExact z g r
  pub formed : Formed r
  pub bad : BadWhen (good_gap g) r
  pub large : GapLarge z g r

pub record ResetStands (z : Zone) (mask : ℕ) (r : Result Zone Slip) : Type 0 where
  pub exact : ResetExact z mask r
  pub formed : Formed r
  pub bad : BadWhen (good_mask mask) r
  pub large : ResetLarge z mask r

pub record DelayStands (z : Zone) (r : Result Zone Slip) : Type 0 where
  pub exact : DelayExact z r
  pub formed : Formed r
  pub large : DelayLarge z r

-- only the six zeros
abbrev pub ZeroExact : Zone → Type 0
ZeroExact z = (s : ℕ) (v : Reading) → 1 ≤ s → length v ≡ 6 → zone_holds z s v ↔ (v ≡ zero_reading)

abbrev pub WithinExact : Zone → Zone → Bool → Type 0
WithinExact a b r = (r ≡ true) ↔ Inside zone_holds a b

abbrev pub EmptyExact : Zone → Bool → Type 0
EmptyExact z r = (r ≡ true) ↔ Vacant zone_holds z
