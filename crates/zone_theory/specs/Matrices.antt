-- What the calls of a zone make of its matrix of limits.
use Rattle.std.specs.Prelude.{◌≡◌, ℕ, ◌<◌, Bool, cond, not, ◌&&◌, ◌||◌, pos, ◌==◌}
use Rattle.weight.specs.Bounds.{limit_size}
use Rattle.weight.specs.Limits.{Limit, under, up_to, free, limit_leb}

-- the tighter of two limits
abbrev pub tighter : Limit → Limit → Limit
tighter a b = cond (limit_leb a b) a b

-- limits that follow from what counts are: no clock differs from itself, and no count is below zero
abbrev pub tightened : (ℕ → ℕ → Limit) → ℕ → ℕ → Limit
tightened d i j = cond (i == 0 || i == j) (tighter (d i j) (up_to (pos 0))) (d i j)

-- one more limit, on clock i less clock j
abbrev pub cut_limits : (ℕ → ℕ → Limit) → ℕ → ℕ → Limit → ℕ → ℕ → Limit
cut_limits d i j b p q = cond (p == i && q == j) (tighter (d p q) b) (d p q)

-- where a clock's count comes from when the clocks of a set are put to 0: from clock 0 for those
abbrev pub home : (ℕ → Bool) → ℕ → ℕ
home set i = cond (set i) 0 i

-- the clocks of a set are put to 0
abbrev pub reset_limits : (ℕ → Bool) → (ℕ → ℕ → Limit) → ℕ → ℕ → Limit
reset_limits set d i j = d (home set i) (home set j)

-- time goes on: the clocks lose their upper bounds, and their differences stay
abbrev pub delay_limits : (ℕ → ℕ → Limit) → ℕ → ℕ → Limit
delay_limits d i j = cond (not (i == 0) && j == 0) free (d i j)

-- every clock reads 0
abbrev pub zero_limits : ℕ → ℕ → Limit
zero_limits i j = up_to (pos 0)

-- every reading
abbrev pub all_limits : ℕ → ℕ → Limit
all_limits i j = cond (i == 0 || i == j) (up_to (pos 0)) free

-- no reading
abbrev pub empty_limits : ℕ → ℕ → Limit
empty_limits i j = under (pos 0)

-- a limit whose constant is 0: it tells the order of two clocks and no more
abbrev pub Level : Limit → Type 0
Level (under z) = z ≡ pos 0
Level (up_to z) = z ≡ pos 0
Level free = Unit {0}

-- a matrix of such limits
abbrev pub AllLevel : (ℕ → ℕ → Limit) → Type 0
AllLevel d = (i j : ℕ) → i < 7 → j < 7 → Level (d i j)

-- some constant passes 4,000,000 either way
abbrev pub Large : (ℕ → ℕ → Limit) → Type 0
Large d = (i j : ℕ) × (i < 7) × (j < 7) × (4000000 < limit_size (d i j))
