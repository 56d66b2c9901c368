-- A limit on the difference of two clock readings: below z, at most z, or none. And the three signs that a difference
-- can be limited by when its constant is always zero.
use Rattle.std.specs.Prelude.{Bool, true, false, not, ℤ, ◌+ℤ◌, int_lt}

pub data Limit : Type 0 where
  under : ℤ → Limit
  up_to : ℤ → Limit
  free : Limit

-- the tighter limit comes first: "below z" before "at most z"
abbrev pub limit_leb : Limit → Limit → Bool
limit_leb (under a) (under b) = not (int_lt b a)
limit_leb (under a) (up_to b) = not (int_lt b a)
limit_leb (under a) free = true
limit_leb (up_to a) (under b) = int_lt a b
limit_leb (up_to a) (up_to b) = not (int_lt b a)
limit_leb (up_to a) free = true
limit_leb free (under b) = false
limit_leb free (up_to b) = false
limit_leb free free = true

-- what two limits give together along a way: strict if one of them is
abbrev pub limit_plus : Limit → Limit → Limit
limit_plus (under a) (under b) = under (a +ℤ b)
limit_plus (under a) (up_to b) = under (a +ℤ b)
limit_plus (under a) free = free
limit_plus (up_to a) (under b) = under (a +ℤ b)
limit_plus (up_to a) (up_to b) = up_to (a +ℤ b)
limit_plus (up_to a) free = free
limit_plus free (under b) = free
limit_plus free (up_to b) = free
limit_plus free free = free
