-- Counts over the numbers below a bound, as sums.
use Rattle.std.proofs.Common.{◌≡◌, ℕ, zero, suc, ◌+◌, ◌*◌, ◌≤◌, sym, ap, ◌∙◌, arith}
use Rattle.std.specs.List.{sum_by, range_with_len}
use Rattle.std.proofs.lemmas.List.Sums.{sum_by-cons}

add_last : (f : ℕ → ℕ) (a n j : ℕ) → a + n ≡ j → sum_by f (range_with_len a (suc n)) ≡ sum_by f (range_with_len a n) + f j
add_last f a zero j e =
    let k : a ≡ j = omega arith in
    rw (← k) (omega arith)
add_last f a (suc n) j e =
    let x = sum_by-cons f a (range_with_len (a + 1) (suc n)) in
    let y = sum_by-cons f a (range_with_len (a + 1) n) in
    let z = add_last f (a + 1) n j (omega arith) in
    omega (arith, x, y, z)

-- a count that goes on by one more part
pub more : (a b x y : ℕ) → a ≡ b → x ≡ y → a + x ≡ b + y
more a b x y e f = cc

-- a count that begins with nothing and goes on by one more part
pub counted : (f count : ℕ → ℕ) → count 0 ≡ 0 → ((n : ℕ) → count (suc n) ≡ count n + f n) → (n : ℕ) → sum_by f (range_with_len 0 n) ≡ count n
counted f count none next zero = sym none
counted f count none next (suc n) =
    add_last f 0 n n (omega arith) ∙ ap (λ x. x + f n) (counted f count none next n) ∙ sym (next n)

pub few_each : (f : ℕ → ℕ) (most : ℕ) → ((i : ℕ) → f i ≤ most) → (n : ℕ) → sum_by f (range_with_len 0 n) ≤ most * n
few_each f most each zero = omega arith
few_each f most each (suc n) =
    let h = few_each f most each n in
    let e = add_last f 0 n n (omega arith) in
    let x = each n in
    let y : most * suc n ≡ most * n + most = omega arith in
    omega (arith, h, e, x, y)
