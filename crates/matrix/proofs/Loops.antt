-- The loops over rows and places.
use Rattle.std.proofs.Common.{◌≡◌, ℕ, ◌+◌, ◌*◌, ◌<◌, ◌≤◌, Bool, true, false, cond, not, ◌&&◌, ◌||◌, eqb, ltb, ◌≢◌, List, length, set, Some, None, sym, refl, ap, ◌∙◌, ⊎_elim, arith}
use Rattle.std.proofs.lemmas.List.{get_or-set_other, get_or-set_same}
use Rattle.std.proofs.lemmas.Bool.{and_from, and_left, and_right, cases_eq, cond_both, cond-false, cond-true, eq-eqb, le-ltb, lt-ltb, ne_eqb, or_from, or_left, or_right}
use Rattle.std.proofs.lemmas.Bool.Decides.{nat_tests}
use Rattle.weight.specs.Closing.{cell, lesser, closing, empty_form, Within}
use Rattle.weight.proofs.Matrix.{empty_cell}
use Rattle.weight.proofs.Rows.{Agree}
use Rattle.zone_theory.specs.Matrices.{home}
use Rattle.zone_theory.specs.Sets.{tabled, tight, canonical_form, or_empty, cut_weights, reset_of, reset_form}
use Rattle.zone_theory.proofs.Resets.{home_in}
use Rattle.zone_theory.proofs.Tables.{tabled_cell, tabled_from, tabled_same, empty_length}

-- one place written
pub put_cell : {V : Type 0} (blank : V) (xs ys : List V) (i j : ℕ) (w : V) → length xs ≡ 49 → i < 7 → j < 7 → ys ≡ set xs (7 * i + j) w
    → Agree (cell blank ys) (λ x y. cond (eqb x i && eqb y j) w (cell blank xs x y))
put_cell blank xs ys i j w long hi hj put x y hx hy =
    ap (λ zs. cell blank zs x y) put
    ∙ ⊎_elim
    (λ (e : x ≡ i). ⊎_elim
    (λ (f : y ≡ j). rw (e, f) (get_or-set_same xs (7 * i + j) w blank (omega arith) ∙ grind (arith, nat_tests)))
    (λ (f : y ≢ j). get_or-set_other xs (7 * i + j) (7 * x + y) w blank (λ s. f (omega arith)) ∙ grind (arith, nat_tests))
    (cases_eq y j))
    (λ (e : x ≢ i). get_or-set_other xs (7 * i + j) (7 * x + y) w blank (λ s. e (omega arith)) ∙ grind (arith, nat_tests))
    (cases_eq x i)

-- the greater of two weights is lost
pub cut_cell : {V : Type 0} (leb : V → V → Bool) (d e : ℕ → ℕ → V) (i j : ℕ) (b w : V) → w ≡ lesser leb (d i j) b
    → Agree e (λ x y. cond (eqb x i && eqb y j) w (d x y)) → Agree e (λ x y. cond (eqb x i && eqb y j) (lesser leb (d x y) b) (d x y))
cut_cell leb d e i j b w new put x y hx hy =
    put x y hx hy
    ∙ ⊎_elim
    (λ (p : x ≡ i). ⊎_elim (λ (q : y ≡ j). rw (p, q) (grind (arith, nat_tests))) (λ (q : y ≢ j). grind (arith, nat_tests)) (cases_eq y j))
    (λ (p : x ≢ i). grind (arith, nat_tests))
    (cases_eq x i)

-- a place outside column k
tight_test : (k x y : ℕ) → y ≢ k → ((eqb x 0 && ltb y k) || (eqb x y && ltb x k)) ≡ ((eqb x 0 && ltb y (k + 1)) || (eqb x y && ltb x (k + 1)))
tight_test k x y p = grind (arith, nat_tests)

module _ {V : Type 0} (leb : V → V → Bool) (neutral : V) where
  lesser_again : (x : V) → lesser leb (lesser leb x neutral) neutral ≡ lesser leb x neutral
  lesser_again x = grind (arith, nat_tests)

  -- the places of row 0 and of the diagonal below k, at most neutral
  abbrev pub tight_to : (ℕ → ℕ → V) → ℕ → ℕ → ℕ → V
  tight_to d k x y = cond ((eqb x 0 && ltb y k) || (eqb x y && ltb x k)) (lesser leb (d x y) neutral) (d x y)

  pub tight_none : (old : ℕ → ℕ → V) → Agree old (tight_to old 0)
  tight_none old x y hx hy = grind (arith, nat_tests)

  -- the first place is written twice
  tight_twice : (a b c o : V) → a ≡ o → b ≡ lesser leb a neutral → c ≡ lesser leb b neutral → c ≡ lesser leb o neutral
  tight_twice a b c o p q r = r ∙ ap (λ t. lesser leb t neutral) (q ∙ ap (λ t. lesser leb t neutral) p) ∙ lesser_again o

  -- column k is as it was
  tight_ahead : (old d : ℕ → ℕ → V) (k x y : ℕ) → x < 7 → y < 7 → y ≡ k → Agree d (tight_to old k) → d x y ≡ old x y
  tight_ahead old d k x y hx hy p inv =
      inv x y hx hy
      ∙ ⊎_elim
      (λ (q : x ≡ k). cond-false _ _ _ (or_from _ _ (and_right (eqb x 0) _ (le-ltb y k (omega arith))) (and_right (eqb x y) _ (le-ltb x k (omega arith)))))
      (λ (q : x ≢ k). cond-false _ _ _ (or_from _ _ (and_right (eqb x 0) _ (le-ltb y k (omega arith))) (and_left _ (ltb x k) (ne_eqb x y (λ s. q (s ∙ p))))))
      (cases_eq x k)

  pub tight_more : (old d e h : ℕ → ℕ → V) (k : ℕ) → k < 7 → Agree d (tight_to old k)
      → Agree e (λ x y. cond (eqb x 0 && eqb y k) (lesser leb (d x y) neutral) (d x y))
      → Agree h (λ x y. cond (eqb x k && eqb y k) (lesser leb (e x y) neutral) (e x y))
      → Agree h (tight_to old (k + 1))
  tight_more old d e h k hk inv row diagonal x y hx hy =
      let b = row x y hx hy in
      let c = diagonal x y hx hy in
      ⊎_elim
      (λ (p : y ≡ k).
      let a = tight_ahead old d k x y hx hy p inv in
      ⊎_elim
      (λ (q : x ≡ k).
      let down : h x y ≡ lesser leb (e x y) neutral = c ∙ cond-true _ _ _ (and_from _ _ (eq-eqb x k q) (eq-eqb y k p)) in
      let then : tight_to old (k + 1) x y ≡ lesser leb (old x y) neutral
      = cond-true _ _ _ (or_right (eqb x 0 && ltb y (k + 1)) _ (and_from _ _ (eq-eqb x y (q ∙ sym p)) (lt-ltb x (k + 1) (omega arith)))) in
      ⊎_elim
      (λ (z : x ≡ 0). tight_twice (d x y) (e x y) (h x y) (old x y) a (b ∙ cond-true _ _ _ (and_from _ _ (eq-eqb x 0 z) (eq-eqb y k p))) down ∙ sym then)
      (λ (z : x ≢ 0). down ∙ ap (λ t. lesser leb t neutral) (b ∙ cond-false _ _ _ (and_left _ (eqb y k) (ne_eqb x 0 z)) ∙ a) ∙ sym then)
      (cases_eq x 0))
      (λ (q : x ≢ k).
      let same : h x y ≡ e x y = c ∙ cond-false _ _ _ (and_left _ (eqb y k) (ne_eqb x k q)) in
      ⊎_elim
      (λ (z : x ≡ 0).
      same
      ∙ (b ∙ cond-true _ _ _ (and_from _ _ (eq-eqb x 0 z) (eq-eqb y k p)))
      ∙ ap (λ t. lesser leb t neutral) a
      ∙ sym (cond-true _ _ _ (or_left _ (eqb x y && ltb x (k + 1)) (and_from _ _ (eq-eqb x 0 z) (lt-ltb y (k + 1) (omega arith))))))
      (λ (z : x ≢ 0).
      same
      ∙ (b ∙ cond-false _ _ _ (and_left _ (eqb y k) (ne_eqb x 0 z)))
      ∙ a
      ∙ sym (cond-false _ _ _ (or_from _ _ (and_left _ (ltb y (k + 1)) (ne_eqb x 0 z)) (and_left _ (ltb x (k + 1)) (ne_eqb x y (λ s. q (s ∙ p)))))))
      (cases_eq x 0))
      (cases_eq x k))
      (λ (p : y ≢ k).
      (c ∙ cond-false _ _ _ (and_right (eqb x k) _ (ne_eqb y k p)))
      ∙ (b ∙ cond-false _ _ _ (and_right (eqb x 0) _ (ne_eqb y k p)))
      ∙ inv x y hx hy
      ∙ ap (λ t. cond t (lesser leb (old x y) neutral) (old x y)) (tight_test k x y p))
      (cases_eq y k)

  pub tight_all : (old d : ℕ → ℕ → V) → Agree d (tight_to old 7) → Agree d (λ x y. cond (eqb x 0 || eqb x y) (lesser leb (old x y) neutral) (old x y))
  tight_all old d inv x y hx hy = let a = inv x y hx hy in grind (arith, nat_tests)

-- the rows from 1 to below i have lost their upper bounds
abbrev pub free_to : {V : Type 0} → V → (ℕ → ℕ → V) → ℕ → ℕ → ℕ → V
free_to u d i x y = cond (not (eqb x 0) && (eqb y 0 && ltb x i)) u (d x y)

module _ {V : Type 0} (u : V) (old d e : ℕ → ℕ → V) where
  pub free_none : Agree old (free_to u old 1)
  free_none x y hx hy = grind (arith, nat_tests)

  pub free_more : (i : ℕ) → 0 < i → Agree d (free_to u old i) → Agree e (λ x y. cond (eqb x i && eqb y 0) u (d x y)) → Agree e (free_to u old (i + 1))
  free_more i hi inv put x y hx hy = let a = inv x y hx hy in let b = put x y hx hy in grind (arith, nat_tests)

  pub free_all : Agree d (free_to u old 7) → Agree d (λ x y. cond (not (eqb x 0) && eqb y 0) u (old x y))
  free_all inv x y hx hy = let a = inv x y hx hy in grind (arith, nat_tests)

-- tightening makes no weight larger
pub tight_room : {V : Type 0} (leb : V → V → Bool) (plus : V → V → V) (neutral blank hopeless : V) (size : V → ℕ) (n : ℕ) (xs : List V)
    → Within size blank n xs → size neutral ≤ n → Within size blank n (tabled (tight leb plus neutral blank hopeless (cell blank xs)))
tight_room leb plus neutral blank hopeless size n xs room start i j hi hj =
    rw (tabled_cell blank (tight leb plus neutral blank hopeless (cell blank xs)) i j hi hj)
    (cond_both (eqb i 0 || eqb i j) (lesser leb (cell blank xs i j) neutral) (cell blank xs i j) (λ x. size x ≤ n)
    (λ e. cond_both (leb (cell blank xs i j) neutral) (cell blank xs i j) neutral (λ x. size x ≤ n) (λ f. room i j hi hj) (λ f. start))
    (λ e. room i j hi hj))

module _ {V : Type 0} (leb : V → V → Bool) (plus : V → V → V) (neutral blank hopeless : V) where
  -- a cut makes no weight larger than the greater of the two
  pub cut_room : (size : V → ℕ) (n : ℕ) (xs ys : List V) (i j : ℕ) (b : V) → Within size blank n xs → size b ≤ n
      → Agree (cell blank ys) (cut_weights leb plus neutral blank hopeless (cell blank xs) i j b) → Within size blank n ys
  cut_room size n xs ys i j b room small same x y hx hy =
      rw (same x y hx hy)
      (cond_both (eqb x i && eqb y j) (lesser leb (cell blank xs x y) b) (cell blank xs x y) (λ v. size v ≤ n)
      (λ e. cond_both (leb (cell blank xs x y) b) (cell blank xs x y) b (λ v. size v ≤ n) (λ f. room x y hx hy) (λ f. small))
      (λ e. room x y hx hy))

  -- the closed form goes by the cells alone
  form_same : (d : ℕ → ℕ → V) (xs : List V) → Agree (cell blank xs) d → canonical_form leb plus neutral blank hopeless xs ≡ canonical_form leb plus neutral blank hopeless (tabled d)
  form_same d xs same =
      ap (closing leb plus neutral blank)
      (tabled_same blank (tight leb plus neutral blank hopeless (cell blank xs)) (tight leb plus neutral blank hopeless (cell blank (tabled d)))
      (λ i j hi hj. ap (λ v. cond (eqb i 0 || eqb i j) (lesser leb v neutral) v) (same i j hi hj ∙ sym (tabled_cell blank d i j hi hj))))

  -- the form that a closing leaves
  pub formed_is : (xs ys : List V) (r : Bool) → canonical_form leb plus neutral blank hopeless xs ≡ cond r (Some ys) None → (r ≡ false → ys ≡ empty_form hopeless)
      → ys ≡ or_empty leb plus neutral blank hopeless (canonical_form leb plus neutral blank hopeless xs)
  formed_is xs ys true is none = sym (ap (or_empty leb plus neutral blank hopeless) is)
  formed_is xs ys false is none = none refl ∙ sym (ap (or_empty leb plus neutral blank hopeless) is)

  pub made_form : (d : ℕ → ℕ → V) (xs ys : List V) (r : Bool) → Agree (cell blank xs) d → canonical_form leb plus neutral blank hopeless xs ≡ cond r (Some ys) None
      → (r ≡ false → ys ≡ empty_form hopeless) → ys ≡ or_empty leb plus neutral blank hopeless (canonical_form leb plus neutral blank hopeless (tabled d))
  made_form d xs ys r same is none = formed_is (tabled d) ys r (sym (form_same d xs same) ∙ is) none

  pub made_reset : (set : ℕ → Bool) (xs ys zs : List V) (r : Bool) → canonical_form leb plus neutral blank hopeless xs ≡ cond r (Some ys) None → (r ≡ false → ys ≡ empty_form hopeless)
      → zs ≡ tabled (λ i j. cell blank ys (home set i) (home set j)) → zs ≡ reset_form leb plus neutral blank hopeless set xs
  made_reset set xs ys zs true is none new = new ∙ sym (ap (reset_of leb plus neutral blank hopeless set) is)
  made_reset set xs ys zs false is none new =
      new
      ∙ tabled_same blank (λ i j. cell blank ys (home set i) (home set j)) (cell blank (empty_form hopeless))
      (λ i j hi hj.
      ap (λ l. cell blank l (home set i) (home set j)) (none refl)
      ∙ empty_cell blank hopeless (home set i) (home set j) (home_in set i hi) (home_in set j hj)
      ∙ sym (empty_cell blank hopeless i j hi hj))
      ∙ sym (tabled_from blank (cell blank (empty_form hopeless)) (empty_form hopeless) (empty_length hopeless) (λ i j hi hj. refl))
      ∙ sym (ap (reset_of leb plus neutral blank hopeless set) is)
