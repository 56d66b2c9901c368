-- A test over all numbers below a bound: whether it passes at each, and the lowest at which it fails.
use Rattle.std.specs.Prelude.{ℕ, zero, suc, Bool, true, cond, ◌&&◌, Some, None, Option}

unfoldable pub all_below : ℕ → (ℕ → Bool) → Bool
all_below zero f = true
all_below (suc n) f = all_below n f && f n

abbrev pub or_else : {X : Type 0} → Option X → Option X → Option X
or_else None o = o
or_else (Some x) o = Some x

unfoldable pub first_bad : ℕ → (ℕ → Bool) → Option ℕ
first_bad zero f = None
first_bad (suc n) f = or_else (first_bad n f) (cond (f n) None (Some n))
