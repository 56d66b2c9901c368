-- Limits with small constants, in a list and in a matrix.
use Rattle.std.proofs.Common.{◌≡◌, ℕ, zero, suc, ◌+◌, ◌*◌, ◌/◌, ◌%◌, ◌^◌, ◌<◌, ◌≤◌, true, ◌&&◌, leb, List, [], ◌∷◌, map, length, get_or, sym, refl, ap, ◌∙◌, subst, arith}
use Rattle.std.specs.List.{list_all}
use Rattle.std.proofs.lemmas.Bool.{and_from, and_parts, le-leb, leb-true}
use Rattle.weight.specs.Limits.{Limit, free}
use Rattle.weight.specs.Bounds.{all_small, all_within, bound_of, limit_of, limit_size}
use Rattle.weight.specs.Closing.{Within}
use Rattle.weight.proofs.Codes.{code_again, limit_again}
use Rattle.weight.specs.declared.bound.Bound.{Bound}

within_at : (n : ℕ) (xs : List Limit) (p : ℕ) → all_within n xs ≡ true → limit_size (get_or xs p free) ≤ n
within_at n [] p e = omega arith
within_at n (x ∷ xs) zero e = leb-true _ _ (and_parts _ _ e).0
within_at n (x ∷ xs) (suc p) e = within_at n xs p (and_parts _ _ e).1

-- constants of a list that are small are so in the matrix
pub all_within_is : (n : ℕ) (xs : List Limit) → all_within n xs ≡ true → Within limit_size free n xs
all_within_is n xs e i j hi hj = within_at n xs (7 * i + j) e

pub small_is : (ls : List Limit) → all_small ls ≡ all_within 4000000 ls
small_is [] = refl
small_is (l ∷ ls) = ap (λ b. leb (limit_size l) 4000000 && b) (small_is ls)

pub small_within : (xs : List Limit) (n : ℕ) → 4000000 ≤ n → all_small xs ≡ true → Within limit_size free n xs
small_within xs n h e i j hi hj = omega (arith, within_at 4000000 xs (7 * i + j) (sym (small_is xs) ∙ e))

-- a test of each bound is one of each limit
pub list_within : (n : ℕ) (bs : List Bound) → list_all (λ b. leb (limit_size (limit_of b)) n) bs ≡ all_within n (map limit_of bs)
list_within n [] = refl
list_within n (b ∷ bs) = ap (λ t. leb (limit_size (limit_of b)) n && t) (list_within n bs)

pub within_all : (n : ℕ) (ls : List Limit) → ((p : ℕ) → p < length ls → limit_size (get_or ls p free) ≤ n) → all_within n ls ≡ true
within_all n [] all = refl
within_all n (l ∷ ls) all = and_from _ _ (le-leb (limit_size l) n (all 0 (omega arith))) (within_all n ls (λ p h. all (suc p) (omega arith)))

-- constants of a matrix that are small are so in its list
pub within_list : (n : ℕ) (ls : List Limit) → length ls ≡ 49 → Within limit_size free n ls → all_within n ls ≡ true
within_list n ls long room =
    within_all n ls
    (λ p h. let whole : 7 * (p / 7) + p % 7 ≡ p = omega arith in subst (λ q. limit_size (get_or ls q free) ≤ n) whole (room (p / 7) (p % 7) (omega arith) (omega arith)))

-- bounds are found again from their limits, and limits from their bounds if their constants are not too large
pub bounds_again : (bs : List Bound) → map bound_of (map limit_of bs) ≡ bs
bounds_again [] = refl
bounds_again (b ∷ bs) =
    let here : bound_of (limit_of b) ≡ b = ap (λ c. record { code = c }) (code_again b.code) in
    let rest = bounds_again bs in
    cc

pub limits_again : (n : ℕ) → n ≤ 2 ^ 29 → (ls : List Limit) → all_within n ls ≡ true → map limit_of (map bound_of ls) ≡ ls
limits_again n top [] e = refl
limits_again n top (l ∷ ls) e =
    let parts = and_parts (leb (limit_size l) n) (all_within n ls) e in
    let here : limit_of (bound_of l) ≡ l = limit_again l (omega (arith, leb-true (limit_size l) n parts.0, top)) in
    let rest = limits_again n top ls parts.1 in
    cc
