-- The calls of a kind of clock set, on the list of 49 weights that a set is stored as. They compute, on lists of any length:
-- a place past the list is unbounded.
use Rattle.std.specs.Prelude.{ℕ, zero, suc, ◌/◌, ◌%◌, Bool, true, false, cond, not, ◌&&◌, ◌||◌, List, map, Some, None, Option, ◌==◌}
use Rattle.std.specs.List.{range_with_len}
use Rattle.weight.specs.Closing.{cell, lesser, closing, empty_form}
use Rattle.weight.specs.Limits.{Limit}
use Rattle.zone_theory.specs.Matrices.{home}

-- the list of a matrix, row by row
unfoldable pub tabled : {V : Type 0} → (ℕ → ℕ → V) → List V
tabled d = map (λ p. d (p / 7) (p % 7)) (range_with_len 0 49)

-- at every one of the first n places
abbrev pub every_below : (ℕ → Bool) → ℕ → Bool
every_below test zero = true
every_below test (suc n) = test n && every_below test n

-- the limits that a list of weights stands for
abbrev pub view : {V : Type 0} → (V → Limit) → V → List V → ℕ → ℕ → Limit
view limit blank xs i j = limit (cell blank xs i j)

module _ {V : Type 0} (leb : V → V → Bool) (plus : V → V → V) (neutral unbounded hopeless : V) where
  -- no clock differs from itself, and no count is below zero
  abbrev pub tight : (ℕ → ℕ → V) → ℕ → ℕ → V
  tight d i j = cond (i == 0 || i == j) (lesser leb (d i j) neutral) (d i j)

  -- the closed form, None where there is no reading
  abbrev pub canonical_form : List V → Option (List V)
  canonical_form xs = closing leb plus neutral unbounded (tabled (tight (cell unbounded xs)))

  abbrev pub or_empty : Option (List V) → List V
  or_empty (Some xs) = xs
  or_empty None = empty_form hopeless

  -- one more weight, from i to j
  abbrev pub cut_weights : (ℕ → ℕ → V) → ℕ → ℕ → V → ℕ → ℕ → V
  cut_weights d i j b p q = cond (p == i && q == j) (lesser leb (d p q) b) (d p q)

  abbrev pub cut_form : List V → ℕ → ℕ → V → List V
  cut_form xs i j b = or_empty (canonical_form (tabled (cut_weights (cell unbounded xs) i j b)))

  -- the clocks of a set are put to 0
  abbrev pub reset_of : (ℕ → Bool) → Option (List V) → List V
  reset_of set (Some xs) = tabled (λ i j. cell unbounded xs (home set i) (home set j))
  reset_of set None = empty_form hopeless

  abbrev pub reset_form : (ℕ → Bool) → List V → List V
  reset_form set xs = reset_of set (canonical_form xs)

  -- time goes on
  abbrev pub delay_of : Option (List V) → List V
  delay_of (Some xs) = tabled (λ i j. cond (not (i == 0) && j == 0) unbounded (cell unbounded xs i j))
  delay_of None = empty_form hopeless

  abbrev pub delay_form : List V → List V
  delay_form xs = delay_of (canonical_form xs)

  -- no weight of xs exceeds that of ys
  unfoldable pub beneath_all : List V → List V → Bool
  beneath_all xs ys = every_below (λ p. leb (cell unbounded xs (p / 7) (p % 7)) (cell unbounded ys (p / 7) (p % 7))) 49

  abbrev pub within_of : Option (List V) → List V → Bool
  within_of (Some xs) ys = beneath_all xs ys
  within_of None ys = true

  abbrev pub within_form : List V → List V → Bool
  within_form xs ys = within_of (canonical_form xs) ys

  abbrev pub is_none : Option (List V) → Bool
  is_none (Some xs) = false
  is_none None = true

  abbrev pub empty_test : List V → Bool
  empty_test xs = is_none (canonical_form xs)
