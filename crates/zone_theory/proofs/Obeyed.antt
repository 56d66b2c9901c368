-- What follows from one limit that is obeyed, or from two along a way.
use Rattle.std.proofs.Common.{◌≡◌, ℕ, zero, suc, ◌+◌, ◌*◌, ◌<◌, ◌≤◌, true, false, ℤ, pos, negsuc, ◌+ℤ◌, sym, refl, ap, mul-le-mul_right, mul-le-mul_left, arith}
use native.Mathlib.Nat.{mul-lt-mul_of_pos_left, le_of_mul-le-mul_left, lt_of_mul-lt-mul_left}
use borrow.Author.Differences.{up, down, ints, sum_is_lem}
use lib.Signed.{lt_z}
use Rattle.std.proofs.lemmas.Bool.{true≢false}
use Rattle.weight.specs.Limits.{Limit, under, up_to, free, limit_leb, limit_plus}
use Rattle.zone_theory.specs.Readings.{Obeys}

-- the sum of two constants, times the scale
pub sum_scaled : (a b : ℤ) (s : ℕ) → up (a +ℤ b) * s + down a * s + down b * s ≡ down (a +ℤ b) * s + up a * s + up b * s
sum_scaled a b s = let e = ap (λ (n : ℕ). n * s) (sum_is_lem a b) in omega (arith, e)

le_scaled : (a b : ℤ) (s : ℕ) → lt_z b a ≡ false → up a * s + down b * s ≤ up b * s + down a * s
le_scaled a b s h = let e : up a + down b ≤ up b + down a = omega (arith, ints) in omega (arith, mul-le-mul_right s e)

lt_scaled : (a b : ℤ) (s : ℕ) → 1 ≤ s → lt_z a b ≡ true → up a * s + down b * s < up b * s + down a * s
lt_scaled a b s p h = let e : up a + down b + 1 ≤ up b + down a = omega (arith, ints) in omega (arith, mul-le-mul_right s e)

not_lt : (a b : ℤ) → limit_leb (up_to a) (up_to b) ≡ true → lt_z b a ≡ false
not_lt a b h = grind arith

-- a looser limit is obeyed
pub obeys_leb : (b c : Limit) (s x y : ℕ) → 1 ≤ s → limit_leb b c ≡ true → Obeys b s x y → Obeys c s x y
obeys_leb (under a) (under b) s x y p h o = omega (arith, le_scaled a b s (not_lt a b h))
obeys_leb (under a) (up_to b) s x y p h o = omega (arith, le_scaled a b s (not_lt a b h))
obeys_leb (under a) free s x y p h o = tt
obeys_leb (up_to a) (under b) s x y p h o = omega (arith, lt_scaled a b s p h)
obeys_leb (up_to a) (up_to b) s x y p h o = omega (arith, le_scaled a b s (not_lt a b h))
obeys_leb (up_to a) free s x y p h o = tt
obeys_leb free (under b) s x y p h o = absurd (true≢false (sym h))
obeys_leb free (up_to b) s x y p h o = absurd (true≢false (sym h))
obeys_leb free free s x y p h o = tt

-- differences add up along a way, and so do their limits
pub obeys_plus : (b c : Limit) (s x y z : ℕ) → Obeys b s x y → Obeys c s y z → Obeys (limit_plus b c) s x z
obeys_plus (under a) (under b) s x y z o q = omega (arith, sum_scaled a b s)
obeys_plus (under a) (up_to b) s x y z o q = omega (arith, sum_scaled a b s)
obeys_plus (under a) free s x y z o q = tt
obeys_plus (up_to a) (under b) s x y z o q = omega (arith, sum_scaled a b s)
obeys_plus (up_to a) (up_to b) s x y z o q = omega (arith, sum_scaled a b s)
obeys_plus (up_to a) free s x y z o q = tt
obeys_plus free (under b) s x y z o q = tt
obeys_plus free (up_to b) s x y z o q = tt
obeys_plus free free s x y z o q = tt

-- a common multiple of the scale and the counts changes nothing
pub obeys_times : (b : Limit) (k s x y : ℕ) → 1 ≤ k → Obeys b s x y → Obeys b (k * s) (k * x) (k * y)
obeys_times (under z) k s x y p o = let e : k * (x + down z * s) < k * (y + up z * s) = mul-lt-mul_of_pos_left o p in omega (arith, e)
obeys_times (up_to z) k s x y p o = omega (arith, mul-le-mul_left k o)
obeys_times free k s x y p o = tt

pub obeys_part : (b : Limit) (k s x y : ℕ) → 1 ≤ k → Obeys b (k * s) (k * x) (k * y) → Obeys b s x y
obeys_part (under z) k s x y p o = let e : k * (x + down z * s) < k * (y + up z * s) = omega arith in lt_of_mul-lt-mul_left k e
obeys_part (up_to z) k s x y p o = let e : k * (x + down z * s) ≤ k * (y + up z * s) = omega arith in le_of_mul-le-mul_left e p
obeys_part free k s x y p o = tt

-- nor does a common shift of the counts
pub obeys_shift : (b : Limit) (s n x y : ℕ) → Obeys b s x y → Obeys b s (x + n) (y + n)
obeys_shift (under z) s n x y o = omega arith
obeys_shift (up_to z) s n x y o = omega arith
obeys_shift free s n x y o = tt

pub obeys_unshift : (b : Limit) (s n x y : ℕ) → Obeys b s (x + n) (y + n) → Obeys b s x y
obeys_unshift (under z) s n x y o = omega arith
obeys_unshift (up_to z) s n x y o = omega arith
obeys_unshift free s n x y o = tt

-- a smaller difference
pub obeys_less : (b : Limit) (s x y z : ℕ) → y ≤ z → Obeys b s x y → Obeys b s x z
obeys_less (under a) s x y z h o = omega arith
obeys_less (up_to a) s x y z h o = omega arith
obeys_less free s x y z h o = tt

-- "at most 0" says just that
pub obeys_zero : (s x y : ℕ) → x ≤ y → Obeys (up_to (pos 0)) s x y
obeys_zero s x y h = omega arith

pub zero_obeys : (s x y : ℕ) → Obeys (up_to (pos 0)) s x y → x ≤ y
zero_obeys s x y h = omega arith

-- a limit below "at most 0" is broken by every count against itself
pub obeys_self : (b : Limit) (s x : ℕ) → 1 ≤ s → Obeys b s x x → limit_leb (up_to (pos 0)) b ≡ true
obeys_self (under (pos zero)) s x p o = absurd (omega arith)
obeys_self (under (pos (suc n))) s x p o = grind arith
obeys_self (under (negsuc n)) s x p o = absurd (omega arith)
obeys_self (up_to (pos n)) s x p o = grind arith
obeys_self (up_to (negsuc n)) s x p o = absurd (omega arith)
obeys_self free s x p o = refl

-- the same limit and counts under other names
pub obeys_same : (b c : Limit) (s x y x' y' : ℕ) → c ≡ b → x' ≡ x → y' ≡ y → Obeys b s x y → Obeys c s x' y'
obeys_same b c s x y x' y' e p q o = rw (e, p, q) o
