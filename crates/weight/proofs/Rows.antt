-- The loops over a row and over the rows of one pass.
use Rattle.std.proofs.Common.{◌≡◌, ℕ, ◌+◌, ◌*◌, ◌<◌, Bool, cond, ◌&&◌, eqb, ltb, ◌≢◌, List, map, length, get_or, set, sym, ap, ◌∙◌, ⊎_elim, arith}
use Rattle.std.proofs.lemmas.List.{get_or-map, get_or-set_other, get_or-set_same}
use Rattle.std.proofs.lemmas.Bool.{cases_eq}
use Rattle.std.proofs.lemmas.Bool.Decides.{nat_tests}
use Rattle.weight.specs.Closing.{cell, relaxed, passed}

-- what a read of the slice tells of the values
pub read_value : {W V : Type 0} (value : W → V) (blank : V) (xs : List W) (p : ℕ) (x : W) → p < length xs → x ≡ get_or xs p x → value x ≡ get_or (map value xs) p blank
read_value value blank xs p x h e = ap value e ∙ sym (get_or-map value xs p x blank h)

-- two matrices agree on the seven places
abbrev pub Agree : {V : Type 0} → (ℕ → ℕ → V) → (ℕ → ℕ → V) → Type 0
Agree d e = (x y : ℕ) → x < 7 → y < 7 → d x y ≡ e x y

module _ {V : Type 0} (leb : V → V → Bool) (plus : V → V → V) where
  -- the places of row i below n, by way of k
  abbrev pub row_to : (ℕ → ℕ → V) → (ℕ → V) → ℕ → ℕ → ℕ → ℕ → ℕ → V
  row_to d row k i n x y = cond (eqb x i && ltb y n) (relaxed leb plus d row k x y) (d x y)

  -- the rows below n, by way of k
  abbrev pub rows_to : (ℕ → ℕ → V) → ℕ → ℕ → ℕ → ℕ → V
  rows_to d k n x y = cond (ltb x n) (passed leb plus d k x y) (d x y)

  module _ (old : ℕ → ℕ → V) (row : ℕ → V) (k i : ℕ) (hi : i < 7) where
    -- the place to come is as it was
    pub row_ahead : (d : ℕ → ℕ → V) (j : ℕ) → Agree d (row_to old row k i j) → j < 7 → d i j ≡ old i j
    row_ahead d j inv hj = let e = inv i j hi hj in grind (arith, nat_tests)

    pub row_more : (blank : V) (xs ys : List V) (j : ℕ) (w : V) → length xs ≡ 49 → j < 7 → Agree (cell blank xs) (row_to old row k i j) → w ≡ relaxed leb plus old row k i j → ys ≡ set xs (7 * i + j) w → Agree (cell blank ys) (row_to old row k i (j + 1))
    row_more blank xs ys j w long hj inv new put x y hx hy =
        ap (λ zs. cell blank zs x y) put
        ∙ ⊎_elim
        (λ (e : x ≡ i). ⊎_elim
        (λ (f : y ≡ j). rw (e, f) (get_or-set_same xs (7 * i + j) w blank (omega arith) ∙ new ∙ grind (arith, nat_tests)))
        (λ (f : y ≢ j). get_or-set_other xs (7 * i + j) (7 * x + y) w blank (λ s. f (omega arith)) ∙ inv x y hx hy ∙ grind (arith, nat_tests))
        (cases_eq y j))
        (λ (e : x ≢ i). get_or-set_other xs (7 * i + j) (7 * x + y) w blank (λ s. e (omega arith)) ∙ inv x y hx hy ∙ grind (arith, nat_tests))
        (cases_eq x i)

    pub row_all : (d : ℕ → ℕ → V) → Agree d (row_to old row k i 7) → (x y : ℕ) → x < 7 → y < 7 → d x y ≡ cond (eqb x i) (relaxed leb plus old row k x y) (old x y)
    row_all d inv x y hx hy = let e = inv x y hx hy in grind (arith, nat_tests)

  module _ (old : ℕ → ℕ → V) (k : ℕ) (hk : k < 7) where
    -- the row to come is as it was
    pub rows_ahead : (d : ℕ → ℕ → V) (n y : ℕ) → Agree d (rows_to old k n) → n < 7 → y < 7 → d n y ≡ old n y
    rows_ahead d n y inv hn hy = inv n y hn hy ∙ grind (arith, nat_tests)

    pub rows_more : (d e : ℕ → ℕ → V) (row : ℕ → V) (n : ℕ) → n < 7 → Agree d (rows_to old k n) → ((y : ℕ) → y < 7 → row y ≡ old k y) → ((x y : ℕ) → x < 7 → y < 7 → e x y ≡ cond (eqb x n) (relaxed leb plus d row k x y) (d x y)) → Agree e (rows_to old k (n + 1))
    rows_more d e row n hn inv same new x y hx hy =
        ⊎_elim
        (λ (f : x ≡ n). new x y hx hy ∙ rw (f, rows_ahead d n y inv hn hy, rows_ahead d n k inv hn hk, same y hy) (grind (arith, nat_tests)))
        (λ (f : x ≢ n). let a = new x y hx hy in let b = inv x y hx hy in grind (arith, nat_tests))
        (cases_eq x n)

    pub rows_all : (d : ℕ → ℕ → V) → Agree d (rows_to old k 7) → Agree d (passed leb plus old k)
    rows_all d inv x y hx hy = let e = inv x y hx hy in grind (arith, nat_tests)

-- a row takes no more memory than the matrix
pub row_fits : (n s : ℕ) → n ≡ 49 → n * s < 9223372036854775808 → 7 * s < 9223372036854775808
row_fits n s e h = let g : 49 * s < 9223372036854775808 = rw e at h in omega arith
