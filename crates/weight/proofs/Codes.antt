-- What a bound's number stands for, by its parity, and the sum of two such numbers.
use Rattle.std.proofs.Common.{◌≡◌, ℕ, ◌+◌, ◌*◌, ◌%◌, ◌^◌, ◌≤◌, Bool, true, false, cond, ◌⊎◌, ℤ, pos, negsuc, ◌+ℤ◌, ◌-ℤ◌, nat_abs, sym, refl, ap, ◌∙◌, ⊎_elim, arith, w32, SFits, to_z, of_z}
use lib.Bits.{bit_and, bit_or}
use borrow.Author.Differences.{ints}
use Rattle.std.proofs.lemmas.Nat.{and_le_r, and_mask, or_mod}
use Rattle.std.proofs.lemmas.Int.{to_z-of_z}
use Rattle.std.proofs.lemmas.Bool.Decides.{nat_tests}
use Rattle.weight.specs.Limits.{Limit, under, up_to, free, limit_plus}
use Rattle.weight.specs.Bounds.{code_limit, code_of, half, is_free, is_odd, is_top, limit_size}

pub odd_code : (z c : ℤ) → is_top z ≡ false → z ≡ (c +ℤ c) +ℤ pos 1 → code_limit z ≡ up_to c
odd_code z c t e = grind (arith, ints, nat_tests)

pub even_code : (z c : ℤ) → z ≡ c +ℤ c → code_limit z ≡ under c
even_code z c e = grind (arith, ints, nat_tests)

-- a number that is not the greatest stands for "at most" half of it if it is odd, and else for "below" that
pub code_cases : (z : ℤ) → is_top z ≡ false → ((is_odd z ≡ true) × (z ≡ (half z +ℤ half z) +ℤ pos 1) × (code_limit z ≡ up_to (half z))) ⊎ ((is_odd z ≡ false) × (z ≡ half z +ℤ half z) × (code_limit z ≡ under (half z)))
code_cases z t = grind (arith, ints, nat_tests)

-- a number is found again from its limit, so equal limits have equal numbers
pub code_again : (z : ℤ) → code_of (code_limit z) ≡ z
code_again z = grind (arith, ints, nat_tests)

pub code_one : (y z : ℤ) → code_limit y ≡ code_limit z → y ≡ z
code_one y z e = sym (code_again y) ∙ ap code_of e ∙ code_again z

-- a limit is found again from its number, if its constant is not too large
pub limit_again : (l : Limit) → limit_size l ≤ 2 ^ 29 → code_limit (code_of l) ≡ l
limit_again (under z) h = even_code (z +ℤ z) z refl
limit_again (up_to z) h = odd_code ((z +ℤ z) +ℤ pos 1) z (grind (arith, ints, nat_tests)) refl
limit_again free h = refl

-- the last bit of a number's 32 bits
low_bit : (z : ℤ) → SFits w32 z → of_z w32 z % 2 ≡ cond (is_odd z) 1 0
low_bit (pos n) f = grind (arith, nat_tests)
low_bit (negsuc n) f = grind (arith, ints, nat_tests)

abbrev any_odd : Bool → Bool → ℕ
any_odd a b = cond a 1 (cond b 1 0)

or_bits : (a b : Bool) → bit_or (cond a 1 0) (cond b 1 0) ≡ any_odd a b
or_bits true true = refl
or_bits true false = refl
or_bits false true = refl
or_bits false false = refl

pub either_bit : (x y : ℤ) → SFits w32 x → SFits w32 y → bit_and (bit_or (of_z w32 x) (of_z w32 y)) 1 ≡ any_odd (is_odd x) (is_odd y)
either_bit x y f g =
    and_mask (bit_or (of_z w32 x) (of_z w32 y)) 1 ∙ or_mod (of_z w32 x) (of_z w32 y) 1 ∙ rw (low_bit x f, low_bit y g) (or_bits (is_odd x) (is_odd y))

pub not_top : (z : ℤ) → false ≡ is_free (code_limit z) → is_top z ≡ false
not_top z e = grind (arith, nat_tests)

code_room : (z : ℤ) → is_top z ≡ false → nat_abs z ≤ 2 * limit_size (code_limit z) + 1
code_room z t = grind (arith, ints, nat_tests)

small_top : (z : ℤ) → nat_abs z ≤ 2 ^ 30 + 3 → is_top z ≡ false
small_top z h = grind (arith, ints, nat_tests)

-- two numbers and the bit that is taken from their sum
module _ (x y : ℤ) (tx : is_top x ≡ false) (ty : is_top y ≡ false) (room : limit_size (code_limit x) + limit_size (code_limit y) ≤ 2 ^ 29) where
  pub plus_small : nat_abs (x +ℤ y) ≤ 2 ^ 30 + 2
  plus_small = omega (arith, ints, code_room x tx, code_room y ty)

  pub code_plus : code_limit ((x +ℤ y) -ℤ pos (any_odd (is_odd x) (is_odd y))) ≡ limit_plus (code_limit x) (code_limit y)
  code_plus =
      ⊎_elim
      (λ p. ⊎_elim
      (λ q. rw (p.0, q.0, tx, ty) (odd_code ((x +ℤ y) -ℤ pos 1) (half x +ℤ half y) (small_top ((x +ℤ y) -ℤ pos 1) (omega (arith, ints, plus_small))) (omega (arith, ints, p.1, q.1))))
      (λ q. rw (p.0, q.0, tx, ty) (even_code ((x +ℤ y) -ℤ pos 1) (half x +ℤ half y) (omega (arith, ints, p.1, q.1))))
      (code_cases y ty))
      (λ p. ⊎_elim
      (λ q. rw (p.0, q.0, tx, ty) (even_code ((x +ℤ y) -ℤ pos 1) (half x +ℤ half y) (omega (arith, ints, p.1, q.1))))
      (λ q. rw (p.0, q.0, tx, ty) (even_code ((x +ℤ y) -ℤ pos 0) (half x +ℤ half y) (omega (arith, ints, p.1, q.1))))
      (code_cases y ty))
      (code_cases x tx)

-- `(x | y) & 1` taken from `x + y`, as the machine computes it
abbrev summed : ℤ → ℤ → ℕ → ℤ
summed x y bit = to_z w32 (of_z w32 (to_z w32 (of_z w32 x) +ℤ to_z w32 (of_z w32 y))) -ℤ to_z w32 bit

module _ (x y : ℤ) (fx : SFits w32 x) (fy : SFits w32 y) (tx : is_top x ≡ false) (ty : is_top y ≡ false) (room : limit_size (code_limit x) + limit_size (code_limit y) ≤ 2 ^ 29) where
  summed_is : (n : ℕ) → n ≤ 1 → (summed x y n ≡ (x +ℤ y) -ℤ pos n) × SFits w32 (summed x y n)
  summed_is n h =
      let s = plus_small x y tx ty room in
      let e : to_z w32 (of_z w32 x) +ℤ to_z w32 (of_z w32 y) ≡ x +ℤ y = omega (arith, ints) in
      (omega (arith, ints), omega (arith, ints))

  sum_fits : (n : ℕ) → n ≤ 1 → SFits w32 (summed x y n)
  sum_fits n h = (summed_is n h).1

  pub sum_is : code_limit (to_z w32 (of_z w32 (summed x y (bit_and (bit_or (of_z w32 x) (of_z w32 y)) 1)))) ≡ limit_plus (code_limit x) (code_limit y)
  sum_is =
      let bit = bit_and (bit_or (of_z w32 x) (of_z w32 y)) 1 in
      let small : bit ≤ 1 = and_le_r (bit_or (of_z w32 x) (of_z w32 y)) 1 in
      ap code_limit (to_z-of_z w32 _ (sum_fits bit small) ∙ (summed_is bit small).0 ∙ ap (λ (n : ℕ). (x +ℤ y) -ℤ pos n) (either_bit x y fx fy))
      ∙ code_plus x y tx ty room
