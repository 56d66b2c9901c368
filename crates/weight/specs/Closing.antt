-- The closing of a matrix of 49 weights, row by row: the weight from i to j stands at 7 * i + j.
use Rattle.std.specs.Prelude.{ℕ, zero, suc, ◌+◌, ◌*◌, ◌/◌, ◌%◌, ◌<◌, ◌≤◌, Bool, true, cond, ◌&&◌, List, map, replicate, Some, None, Option, slice_index_or}
use Rattle.std.specs.List.{range_with_len}

-- the weight from i to j; a place past the list reads as `blank`
abbrev pub cell : {V : Type 0} → V → List V → ℕ → ℕ → V
cell blank xs i j = slice_index_or xs (7 * i + j) blank

-- the first where the two are equal
abbrev pub lesser : {V : Type 0} → (V → V → Bool) → V → V → V
lesser leb x y = cond (leb x y) x y

-- the weight from i to j, or the way via k where that is lesser; row is the row of k
abbrev pub relaxed : {V : Type 0} → (V → V → Bool) → (V → V → V) → (ℕ → ℕ → V) → (ℕ → V) → ℕ → ℕ → ℕ → V
relaxed leb plus d row k i j = lesser leb (d i j) (plus (d i k) (row j))

-- the weight from i to j after the pass k over the matrix d
abbrev pub passed : {V : Type 0} → (V → V → Bool) → (V → V → V) → (ℕ → ℕ → V) → ℕ → ℕ → ℕ → V
passed leb plus d k i j = relaxed leb plus d (d k) k i j

-- the pass k, over the whole matrix
unfoldable pub one_pass : {V : Type 0} → (V → V → Bool) → (V → V → V) → V → ℕ → List V → List V
one_pass leb plus blank k xs = map (λ p. passed leb plus (cell blank xs) k (p / 7) (p % 7)) (range_with_len 0 49)

-- the passes below n, in order
abbrev pub passes : {V : Type 0} → (V → V → Bool) → (V → V → V) → V → ℕ → List V → List V
passes leb plus blank zero xs = xs
passes leb plus blank (suc k) xs = one_pass leb plus blank k (passes leb plus blank k xs)

-- no place below n is below neutral against itself
abbrev pub sound_below : {V : Type 0} → (V → V → Bool) → V → (ℕ → ℕ → V) → ℕ → Bool
sound_below leb neutral d zero = true
sound_below leb neutral d (suc n) = leb neutral (d n n) && sound_below leb neutral d n

-- the matrix, if its diagonal is sound
abbrev pub settled : {V : Type 0} → (V → V → Bool) → V → V → List V → Option (List V)
settled leb neutral blank xs = cond (sound_below leb neutral (cell blank xs) 7) (Some xs) None

-- the closed form, or None where the diagonal falls below neutral
unfoldable pub closing : {V : Type 0} → (V → V → Bool) → (V → V → V) → V → V → List V → Option (List V)
closing leb plus neutral blank xs = settled leb neutral blank (passes leb plus blank 7 xs)

-- the one form of a matrix that has no closed form
unfoldable pub empty_form : {V : Type 0} → V → List V
empty_form hopeless = replicate 49 hopeless

-- every weight's size is at most n
abbrev pub Within : {V : Type 0} → (V → ℕ) → V → ℕ → List V → Type 0
Within size blank n xs = (i j : ℕ) → i < 7 → j < 7 → size (cell blank xs i j) ≤ n
