-- How limits are stored: a bound's number is twice the constant, plus one for "at most", so that the order of bounds is
-- the order of their numbers. The greatest number of 32 bits stands for no limit.
use Rattle.std.specs.Prelude.{ℕ, ◌/◌, ◌%◌, Bool, true, false, cond, ◌&&◌, List, [], ◌∷◌, ℤ, pos, negsuc, ◌+ℤ◌, ◌==◌, nat_le, unsigned_abs}
use Rattle.weight.specs.Limits.{Limit, under, up_to, free}
use Rattle.weight.specs.declared.bound.Bound.{Bound}

-- rounded down
abbrev pub half : ℤ → ℤ
half (pos n) = pos (n / 2)
half (negsuc n) = negsuc (n / 2)

abbrev pub is_odd : ℤ → Bool
is_odd (pos n) = n % 2 == 1
is_odd (negsuc n) = n % 2 == 0

-- the greatest number of 32 bits
abbrev pub is_top : ℤ → Bool
is_top (pos n) = n == 2147483647
is_top (negsuc n) = false

-- the limit of a number
abbrev pub code_limit : ℤ → Limit
code_limit z = cond (is_top z) free (cond (is_odd z) (up_to (half z)) (under (half z)))

-- the number of a limit
abbrev pub code_of : Limit → ℤ
code_of (under z) = z +ℤ z
code_of (up_to z) = (z +ℤ z) +ℤ pos 1
code_of free = pos 2147483647

abbrev pub limit_of : Bound → Limit
limit_of b = code_limit b.code

abbrev pub bound_of : Limit → Bound
bound_of l = record { code = code_of l }

abbrev pub is_free : Limit → Bool
is_free (under z) = false
is_free (up_to z) = false
is_free free = true

-- the constant without its sign; no limit has none
abbrev pub limit_size : Limit → ℕ
limit_size (under z) = unsigned_abs z
limit_size (up_to z) = unsigned_abs z
limit_size free = 0

-- no constant exceeds n either way
abbrev pub all_within : ℕ → List Limit → Bool
all_within n [] = true
all_within n (l ∷ ls) = nat_le (limit_size l) n && all_within n ls

-- no constant exceeds 4,000,000 either way
abbrev pub all_small : List Limit → Bool
all_small [] = true
all_small (l ∷ ls) = nat_le (limit_size l) 4000000 && all_small ls
