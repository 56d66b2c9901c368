-- The steps of a loop that tests all numbers below a bound.
use Rattle.std.proofs.Common.{◌≡◌, ℕ, zero, suc, ◌+◌, ◌<◌, ◌≤◌, Bool, true, false, cond, ◌&&◌, Some, None, Option, refl, subst, inl, inr, add-one, arith}
use Rattle.std.proofs.lemmas.Bool.{and_from, and_parts, and_left, and_right, cases_order}
use Rattle.model.specs.Below.{all_below, first_bad, or_else}

pub all_none : (f : ℕ → Bool) → all_below 0 f ≡ true
unfolding all_below
all_none f = refl

pub all_more : (n : ℕ) (f : ℕ → Bool) → all_below n f ≡ true → f n ≡ true → all_below (n + 1) f ≡ true
unfolding all_below
all_more n f h e = rw add-one (and_from (all_below n f) (f n) h e)

pub all_stop : (n k : ℕ) (f : ℕ → Bool) → k < n → f k ≡ false → all_below n f ≡ false
unfolding all_below
all_stop zero k f lt e = absurd (omega arith)
all_stop (suc n) k f lt e =
    elim (cases_order k n) [ inl eq ↦ and_right (all_below n f) (f n) (rw (← eq) e) | inr (inl less) ↦ and_left (all_below n f) (f n) (all_stop n k f less e) | inr (inr more) ↦ absurd (omega arith) ]

pub all_at : (n k : ℕ) (f : ℕ → Bool) → all_below n f ≡ true → k < n → f k ≡ true
unfolding all_below
all_at zero k f h lt = absurd (omega arith)
all_at (suc n) k f h lt =
    elim (cases_order k n) [ inl eq ↦ rw eq (and_parts (all_below n f) (f n) h).1 | inr (inl less) ↦ all_at n k f (and_parts (all_below n f) (f n) h).0 less | inr (inr more) ↦ absurd (omega arith) ]

pub bad_none : (f : ℕ → Bool) → first_bad 0 f ≡ None
unfolding first_bad
bad_none f = refl

pub bad_more : (n : ℕ) (f : ℕ → Bool) → first_bad n f ≡ None → f n ≡ true → first_bad (n + 1) f ≡ None
unfolding first_bad
bad_more n f h e = rw (add-one, h, e)

pub bad_stop : (n k : ℕ) (f : ℕ → Bool) → k < n → first_bad k f ≡ None → f k ≡ false → first_bad n f ≡ Some k
unfolding first_bad
bad_stop zero k f lt h e = absurd (omega arith)
bad_stop (suc n) k f lt h e =
    elim (cases_order k n) [ inl eq ↦ rw (← eq, h, e) | inr (inl less) ↦ rw (bad_stop n k f less h e) | inr (inr more) ↦ absurd (omega arith) ]

-- nothing fails from n on
pub bad_rest : (n m : ℕ) (f : ℕ → Bool) → first_bad n f ≡ None → ((k : ℕ) → n ≤ k → f k ≡ true) → n ≤ m → first_bad m f ≡ None
unfolding first_bad
bad_rest n zero f h past le = refl
bad_rest n (suc m) f h past le =
    elim (cases_order n (suc m)) [ inl eq ↦ subst (λ x. first_bad x f ≡ None) eq h | inr (inl less) ↦ rw (bad_rest n m f h past (omega arith), past m (omega arith)) | inr (inr more) ↦ absurd (omega arith) ]

pub all_from_none : (n : ℕ) (f : ℕ → Bool) → first_bad n f ≡ None → all_below n f ≡ true
unfolding all_below first_bad
all_from_none zero f h = refl
all_from_none (suc n) f h = parts (first_bad n f) (f n) (all_from_none n f) h
  where
    parts : (o : Option ℕ) (b : Bool) → (o ≡ None → all_below n f ≡ true) → or_else o (cond b None (Some n)) ≡ None → (all_below n f && b) ≡ true
    parts None true below e = and_from (all_below n f) true (below refl) refl
    parts None false below e = cc
    parts (Some i) b below e = cc

pub all_every : (n : ℕ) (f : ℕ → Bool) → ((k : ℕ) → k < n → f k ≡ true) → all_below n f ≡ true
unfolding all_below
all_every zero f h = refl
all_every (suc n) f h = and_from (all_below n f) (f n) (all_every n f (λ k lt. h k (omega arith))) (h n (omega arith))

pub all_same : (n : ℕ) (f g : ℕ → Bool) → ((k : ℕ) → k < n → f k ≡ g k) → all_below n f ≡ all_below n g
unfolding all_below
all_same zero f g h = refl
all_same (suc n) f g h = rw (all_same n f g (λ k lt. h k (omega arith)), h n (omega arith))
