-- What is proved of readings. Each of these statements is the contract of a function, named after it.
use Rattle.std.specs.Prelude.{◌≡◌, ℕ, ◌*◌, ◌<◌, ◌≤◌, Bool, ◌↔◌, List, length, pos}
use Rattle.weight.specs.Limits.{Limit, up_to, limit_leb, limit_plus}
use Rattle.weight.specs.Weights.{Beneath, ClosedForm, Falling}
use Rattle.clocks.specs.Readings.{count_at, times, later, cleared, zero_reading}
use Rattle.zone_theory.specs.Readings.{Obeys, Holds, Fine, Readable, Vacant, Inside, Alike}
use Rattle.zone_theory.specs.Matrices.{tightened, cut_limits, reset_limits, delay_limits, zero_limits, all_limits, empty_limits, AllLevel}

-- the closed form of any matrix
abbrev pub Closes : (ℕ → ℕ → Limit) → (ℕ → ℕ → Limit) → Type 0
Closes d new = ClosedForm limit_leb limit_plus (up_to (pos 0)) (tightened d) new

-- a way of the matrix falls below zero
abbrev pub Falls : (ℕ → ℕ → Limit) → Type 0
Falls d = Falling limit_leb limit_plus (up_to (pos 0)) (tightened d)

-- any matrix has the readings of its closed form, which has one; where a way falls there is none
abbrev pub ClosingExact : Type 0
ClosingExact = ((d new : ℕ → ℕ → Limit) → Closes d new → Fine new × Alike new d × Readable d) × ((d : ℕ → ℕ → Limit) → Falls d → Vacant d)

-- a fine matrix lies entry by entry at or below another just when all its readings are readings of the other
abbrev pub WithinExact : Type 0
WithinExact = (d e : ℕ → ℕ → Limit) → Fine d → Beneath limit_leb d e ↔ Inside d e

-- two fine matrices with the same readings are the same
abbrev pub Canonical : Type 0
Canonical = (d e : ℕ → ℕ → Limit) → Fine d → Fine e → Alike d e → (i j : ℕ) → i < 7 → j < 7 → d i j ≡ e i j

-- one more limit leaves the readings that obey it
abbrev pub GapExact : Type 0
GapExact = (d : ℕ → ℕ → Limit) (i j : ℕ) (b : Limit) → i < 7 → j < 7 → (s : ℕ) (v : List ℕ) → 1 ≤ s
    → Holds (cut_limits d i j b) s v ↔ (Holds d s v × Obeys b s (count_at v i) (count_at v j))

-- v comes from a reading u of d, at the same or a finer scale, by putting the clocks of the set to 0
abbrev pub Reset : (ℕ → Bool) → (ℕ → ℕ → Limit) → ℕ → List ℕ → Type 0
Reset set d s v = (k : ℕ) × (u : List ℕ) × (1 ≤ k) × (length u ≡ 6) × Holds d (k * s) u × (times k v ≡ cleared set u)

abbrev pub ResetExact : Type 0
ResetExact = (set : ℕ → Bool) (d : ℕ → ℕ → Limit) → Fine d
    → Fine (reset_limits set d) × ((s : ℕ) (v : List ℕ) → 1 ≤ s → length v ≡ 6 → Holds (reset_limits set d) s v ↔ Reset set d s v)

-- v comes from a reading u of d, at the same or a finer scale, by waiting
abbrev pub Delay : (ℕ → ℕ → Limit) → ℕ → List ℕ → Type 0
Delay d s v = (k n : ℕ) × (u : List ℕ) × (1 ≤ k) × (length u ≡ 6) × Holds d (k * s) u × (times k v ≡ later n u)

abbrev pub DelayExact : Type 0
DelayExact = (d : ℕ → ℕ → Limit) → Fine d
    → Fine (delay_limits d) × ((s : ℕ) (v : List ℕ) → 1 ≤ s → length v ≡ 6 → Holds (delay_limits d) s v ↔ Delay d s v)

-- the matrices to start from
abbrev pub ZeroExact : Type 0
ZeroExact = Fine zero_limits × ((s : ℕ) (v : List ℕ) → length v ≡ 6 → Holds zero_limits s v ↔ (v ≡ zero_reading))

abbrev pub AllExact : Type 0
AllExact = Fine all_limits × ((s : ℕ) (v : List ℕ) → Holds all_limits s v)

abbrev pub EmptyExact : Type 0
EmptyExact = Falls empty_limits × Vacant empty_limits

-- no unit of time is the smallest: a finer scale changes nothing
abbrev pub ScaleFree : Type 0
ScaleFree = (d : ℕ → ℕ → Limit) (k s : ℕ) (v : List ℕ) → 1 ≤ k → length v ≡ 6 → Holds d s v ↔ Holds d (k * s) (times k v)

-- orders of clocks: limits with the constant 0 stay such
abbrev pub LevelsStay : Type 0
LevelsStay = (d : ℕ → ℕ → Limit) → AllLevel d
    → ((new : ℕ → ℕ → Limit) → Closes d new → AllLevel new) × ((set : ℕ → Bool) → AllLevel (reset_limits set d)) × AllLevel (delay_limits d)
