-- Lists of 49 weights and the matrices that they stand for.
use Rattle.std.proofs.Common.{◌≡◌, ℕ, zero, suc, ◌+◌, ◌*◌, ◌/◌, ◌%◌, ◌<◌, ◌≤◌, Bool, true, ◌&&◌, List, [], ◌∷◌, map, length, get_or, sym, refl, ap, ◌∙◌, ⊎_elim, arith}
use Rattle.std.proofs.lemmas.List.FromFn.{fill_by_all, get_or-map-range_with_len, length-map-range_with_len}
use Rattle.std.proofs.lemmas.List.Folds.{list_all-map}
use Rattle.std.proofs.lemmas.Slice.Zip.{get_or-zip, length-zip}
use Rattle.std.specs.List.{list_all, range_with_len, zip}
use Rattle.std.proofs.lemmas.Bool.{and_parts, and_from, cases_lt}
use Rattle.std.proofs.lemmas.List.{length-replicate}
use Rattle.weight.specs.Closing.{cell, empty_form}
use Rattle.zone_theory.specs.Sets.{tabled, every_below, beneath_all}
use Rattle.weight.proofs.Chains.{list_all_last}

pub tabled_cell : {V : Type 0} (blank : V) (d : ℕ → ℕ → V) (i j : ℕ) → i < 7 → j < 7 → cell blank (tabled d) i j ≡ d i j
unfolding tabled
tabled_cell blank d i j hi hj =
    let row : (7 * i + j) / 7 ≡ i = omega arith in
    let column : (7 * i + j) % 7 ≡ j = omega arith in
    get_or-map-range_with_len (λ p. d (p / 7) (p % 7)) 0 49 (7 * i + j) (7 * i + j) blank (omega arith) (omega arith) ∙ rw (row, column) refl

pub tabled_from : {V : Type 0} (blank : V) (d : ℕ → ℕ → V) (xs : List V) → length xs ≡ 49 → ((i j : ℕ) → i < 7 → j < 7 → cell blank xs i j ≡ d i j) → xs ≡ tabled d
unfolding tabled
tabled_from blank d xs long same =
    fill_by_all (λ p. d (p / 7) (p % 7)) xs 49 blank long
    (λ p h. let whole : 7 * (p / 7) + p % 7 ≡ p = omega arith in sym (ap (λ q. get_or xs q blank) whole) ∙ same (p / 7) (p % 7) (omega arith) (omega arith))

pub tabled_length : {V : Type 0} (d : ℕ → ℕ → V) → length (tabled d) ≡ 49
unfolding tabled
tabled_length d = length-map-range_with_len (λ p. d (p / 7) (p % 7)) 0 49

-- a table is made of what stands on the seven places
pub tabled_same : {V : Type 0} (blank : V) (d e : ℕ → ℕ → V) → ((i j : ℕ) → i < 7 → j < 7 → d i j ≡ e i j) → tabled d ≡ tabled e
tabled_same blank d e same = tabled_from blank e (tabled d) (tabled_length d) (λ i j hi hj. tabled_cell blank d i j hi hj ∙ same i j hi hj)

-- lists of 49 with equal cells are equal
pub cells_same : {V : Type 0} (blank : V) (xs ys : List V) → length xs ≡ 49 → length ys ≡ 49 → ((i j : ℕ) → i < 7 → j < 7 → cell blank xs i j ≡ cell blank ys i j) → xs ≡ ys
cells_same blank xs ys p q same = tabled_from blank (cell blank ys) xs p same ∙ sym (tabled_from blank (cell blank ys) ys q (λ i j hi hj. refl))

pub every_at : (test : ℕ → Bool) (n p : ℕ) → p < n → every_below test n ≡ true → test p ≡ true
every_at test zero p h e = absurd (omega arith)
every_at test (suc n) p h e =
    let parts = and_parts (test n) (every_below test n) e in
    ⊎_elim (λ (l : p < n). every_at test n p l parts.1) (λ (l : n ≤ p). let s : p ≡ n = omega arith in ap test s ∙ parts.0) (cases_lt p n)

pub every_from : (test : ℕ → Bool) (n : ℕ) → ((p : ℕ) → p < n → test p ≡ true) → every_below test n ≡ true
every_from test zero all = refl
every_from test (suc n) all = and_from (test n) (every_below test n) (all n (omega arith)) (every_from test n (λ p h. all p (omega arith)))

-- a chain over two lists of 49 tests them place by place
pub every_list : (test : ℕ → Bool) (n : ℕ) → list_all test (range_with_len 0 n) ≡ every_below test n
every_list test zero = refl
every_list test (suc n) = list_all_last test n ∙ ap (λ (b : Bool). test n && b) (every_list test n)

pub zip_read : {A B C D : Type 0} (f : C → D → Bool) (g : A → C) (h : B → D) (xs : List A) (ys : List B) → list_all (λ p. f (g p.0) (h p.1)) (zip xs ys) ≡ list_all (λ p. f p.0 p.1) (zip (map g xs) (map h ys))
zip_read f g h [] ys = refl
zip_read f g h (x ∷ xs) [] = refl
zip_read f g h (x ∷ xs) (y ∷ ys) = ap (λ (b : Bool). f (g x) (h y) && b) (zip_read f g h xs ys)

module _ {V : Type 0} (leb : V → V → Bool) (plus : V → V → V) (neutral blank hopeless : V) where
  pub zip_beneath : (xs ys : List V) → length xs ≡ 49 → length ys ≡ 49 → list_all (λ p. leb p.0 p.1) (zip xs ys) ≡ beneath_all leb plus neutral blank hopeless xs ys
  unfolding beneath_all
  zip_beneath xs ys p q =
      let at : ℕ → V × V = λ n. (cell blank xs (n / 7) (n % 7), cell blank ys (n / 7) (n % 7)) in
      let long : length (zip xs ys) ≡ 49 = length-zip xs ys ∙ rw (p, q) refl in
      let pairs : zip xs ys ≡ map at (range_with_len 0 49)
      = fill_by_all at (zip xs ys) 49 (blank, blank) long
      (λ n h.
      let whole : 7 * (n / 7) + n % 7 ≡ n = omega arith in
      get_or-zip xs ys n (blank, blank) (omega arith) (omega arith) ∙ rw whole refl) in
      ap (list_all (λ (r : V × V). leb r.0 r.1)) pairs
      ∙ list_all-map (λ (r : V × V). leb r.0 r.1) at (range_with_len 0 49)
      ∙ every_list (λ n. leb (at n).0 (at n).1) 49

pub empty_length : {V : Type 0} (hopeless : V) → length (empty_form hopeless) ≡ 49
unfolding empty_form
empty_length hopeless = length-replicate 49 hopeless
