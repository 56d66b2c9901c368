-- What the calls of a kind mean, by readings alone. A reading has six counts and a scale is at least 1 throughout.
use Rattle.std.specs.Prelude.{◌≡◌, ℕ, ◌≤◌, true, false, length, Ok, Err, Result}
use Rattle.slip.specs.declared.Refusal.TheVariants.{BadArgument, BoundTooLarge}
use Rattle.slip.specs.declared.Slip.{Slip}
use Rattle.clocks.specs.declared.Gap.{Gap}
use Rattle.clocks.specs.Gaps.{ObeysGap, good_gap, good_mask}
use Rattle.clocks.specs.Readings.{Reading, zero_reading, later, in_mask, cleared}
use Rattle.clockset.specs.Calls.{Calls, Closings}

-- the refusals of sets have the place 0
abbrev pub bad_argument : Slip
bad_argument = record { refusal = BadArgument; place = 0 }

abbrev pub bound_too_large : Slip
bound_too_large = record { refusal = BoundTooLarge; place = 0 }

-- every reading of a belongs to b
abbrev pub Inside : {S : Type 0} → (S → ℕ → Reading → Type 0) → S → S → Type 0
Inside holds a b = (s : ℕ) (v : Reading) → 1 ≤ s → length v ≡ 6 → holds a s v → holds b s v

-- no reading belongs to a
abbrev pub Vacant : {S : Type 0} → (S → ℕ → Reading → Type 0) → S → Type 0
Vacant holds a = (s : ℕ) (v : Reading) → 1 ≤ s → length v ≡ 6 → holds a s v → ⊥

-- equal readings
abbrev pub Alike : {S : Type 0} → (S → ℕ → Reading → Type 0) → S → S → Type 0
Alike holds a b = Inside holds a b × Inside holds b a

-- the same refusal, or equal readings again
abbrev pub FareAlike : {S : Type 0} → (S → ℕ → Reading → Type 0) → Result S Slip → Result S Slip → Type 0
FareAlike holds (Ok a) (Ok b) = Alike holds a b
FareAlike holds (Ok a) (Err e) = ⊥
FareAlike holds (Err d) (Ok b) = ⊥
FareAlike holds (Err d) (Err e) = d ≡ e

-- what every kind keeps: no reading is lost, bad arguments and they alone are refused as such, and a yes is true
pub record Sound {S : Type 0} (holds : S → ℕ → Reading → Type 0) (k : Calls S) : Type 0 where
  pub all_in : (s : ℕ) (v : Reading) → 1 ≤ s → length v ≡ 6 → holds k.all s v
  pub zero_in : (s : ℕ) → 1 ≤ s → holds k.zero s zero_reading
  pub gap_in : (a b : S) (g : Gap) → k.gap a g ≡ Ok b → (s : ℕ) (v : Reading) → 1 ≤ s → length v ≡ 6 → holds a s v → ObeysGap g s v → holds b s v
  pub gap_bad : (a : S) (g : Gap) → good_gap g ≡ false → k.gap a g ≡ Err bad_argument
  pub gap_good : (a : S) (g : Gap) (e : Slip) → good_gap g ≡ true → k.gap a g ≡ Err e → e ≡ bound_too_large
  pub reset_in : (a b : S) (mask : ℕ) → k.reset a mask ≡ Ok b → (s : ℕ) (v : Reading) → 1 ≤ s → length v ≡ 6 → holds a s v → holds b s (cleared (in_mask mask) v)
  pub reset_bad : (a : S) (mask : ℕ) → good_mask mask ≡ false → k.reset a mask ≡ Err bad_argument
  pub reset_good : (a : S) (mask : ℕ) (e : Slip) → good_mask mask ≡ true → k.reset a mask ≡ Err e → e ≡ bound_too_large
  pub delay_in : (a b : S) → k.delay a ≡ Ok b → (s n : ℕ) (v : Reading) → 1 ≤ s → length v ≡ 6 → holds a s v → holds b s (later n v)
  pub delay_good : (a : S) (e : Slip) → k.delay a ≡ Err e → e ≡ bound_too_large
  pub within_true : (a b : S) → k.within a b ≡ true → Inside holds a b
  pub empty_true : (a : S) → k.empty a ≡ true → Vacant holds a

-- what a sure kind keeps besides: within and empty miss no yes, and sets with equal readings fare alike in every call
pub record Sure {S : Type 0} (holds : S → ℕ → Reading → Type 0) (k : Calls S) : Type 0 where
  pub within_all : (a b : S) → Inside holds a b → k.within a b ≡ true
  pub empty_all : (a : S) → Vacant holds a → k.empty a ≡ true
  pub gap_alike : (a b : S) (g : Gap) → Alike holds a b → FareAlike holds (k.gap a g) (k.gap b g)
  pub reset_alike : (a b : S) (mask : ℕ) → Alike holds a b → FareAlike holds (k.reset a mask) (k.reset b mask)
  pub delay_alike : (a b : S) → Alike holds a b → FareAlike holds (k.delay a) (k.delay b)

-- a set's closed form answers as the set does
pub record Forms {S : Type 0} (k : Calls S) (f : Closings S) : Type 0 where
  pub closed_within_is : (a b : S) → f.closed_within (f.closed a) b ≡ k.within a b
  pub closed_empty_is : (a : S) → f.closed_empty (f.closed a) ≡ k.empty a
