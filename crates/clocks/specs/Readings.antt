-- Readings of the six clocks. At the scale s, a whole number from 1, a unit of time is s ticks; a reading is a list of six
-- counts of ticks, clock 1 first. Clock 0 stands for the zero of time: it has no count in the list and always reads 0.
use Rattle.std.specs.Prelude.{ℕ, ◌+◌, ◌-◌, ◌*◌, ◌/◌, ◌%◌, ◌^◌, Bool, cond, List, [], ◌∷◌, map, ◌==◌, slice_index}
use Rattle.std.specs.List.{range_with_len}

abbrev pub Reading : Type 0
Reading = List ℕ

-- the count of a clock
abbrev pub count_at : Reading → ℕ → ℕ
count_at v i = slice_index (0 ∷ v) i

-- the reading that has the count w i at each clock i from 1 to 6
abbrev pub listed : (ℕ → ℕ) → Reading
listed w = map w (range_with_len 1 6)

-- every clock at 0
abbrev pub zero_reading : Reading
zero_reading = 0 ∷ 0 ∷ 0 ∷ 0 ∷ 0 ∷ 0 ∷ []

-- the same reading at a scale k times as fine
abbrev pub times : ℕ → Reading → Reading
times k v = map (λ (x : ℕ). k * x) v

-- the reading n ticks later
abbrev pub later : ℕ → Reading → Reading
later n v = map (λ (x : ℕ). x + n) v

-- clock i stands in a set of clocks that is written as a number, clock 1 at its lowest bit
abbrev pub in_mask : ℕ → ℕ → Bool
in_mask mask i = mask / 2 ^ (i - 1) % 2 == 1

-- the reading with the clocks of a set put to 0
abbrev pub cleared : (ℕ → Bool) → Reading → Reading
cleared set v = listed (λ i. cond (set i) 0 (count_at v i))
