-- Chains over the numbers below a bound, as the tests below it.
use Rattle.std.proofs.Common.{◌≡◌, ℕ, zero, suc, ◌+◌, ◌<◌, ◌≤◌, Bool, true, false, ◌&&◌, List, [], ◌∷◌, length, get_or, take, Some, None, Option, ap, sym, refl, ◌∙◌, arith}
use Rattle.std.specs.Fn.{Called, Mut}
use Rattle.std.specs.Iterator.{YieldsThen}
use Rattle.std.specs.List.{list_all, range_with_len, FoldsTo}
use Rattle.std.specs.Option.{MatchOption}
use Rattle.std.proofs.lemmas.Iterator.{YieldsList}
use Rattle.std.proofs.lemmas.Iterator.Search.{all_from_yields_List}
use Rattle.std.proofs.lemmas.List.{take_all}
use Rattle.std.proofs.lemmas.List.Folds.{list_all-append}
use Rattle.std.proofs.Math.Seq.{take-suc}
use Rattle.model.specs.Below.{all_below, first_bad}
use Rattle.model.proofs.Below.{bad_stop}

one : (b : Bool) → (b && true) ≡ (true && b)
one true = refl
one false = refl

shift : (a b c : Bool) → (a && (b && c)) ≡ ((a && b) && c)
shift true b c = refl
shift false b c = refl

more : (f : ℕ → Bool) (a n j : ℕ) → a + n ≡ j → list_all f (range_with_len a (suc n)) ≡ (list_all f (range_with_len a n) && f j)
more f a zero j e = let k : a ≡ j = omega arith in rw (← k) (one (f a))
more f a (suc n) j e =
    ap (λ (b : Bool). f a && b) (more f (a + 1) n j (omega arith)) ∙ shift (f a) (list_all f (range_with_len (a + 1) n)) (f j)

pub list_all_below : (n : ℕ) (f : ℕ → Bool) → list_all f (range_with_len 0 n) ≡ all_below n f
unfolding all_below
list_all_below zero f = refl
list_all_below (suc n) f = more f 0 n n (omega arith) ∙ ap (λ (b : Bool). b && f n) (list_all_below n f)

-- `(0..n).all(|k| test(k))` is answered by `all_from_range n test _ c.all.ensures.ran (YieldsList-from_range 0 n n refl (omega arith)) (λ k b q h. search rules)`
pub all_from_range : {S F : Type 0} {steps : S → Option ℕ → S → Type 0} {g : Mut F (ℕ × Unit {0}) Bool} (n : ℕ) (test : ℕ → Bool) {s : S} (u : S) {f : F} {r : Bool}
    → (xs : List ℕ) × (o : Option ℕ) × (j : F) × YieldsThen steps s xs o u × FoldsTo (λ p x q. Called g p (x, tt) true q) f xs j × MatchOption o (r ≡ true) (λ x. (r ≡ false) × ((h : F) × Called g j (x, tt) false h))
    → YieldsList steps (λ (k : ℕ). k) s (range_with_len 0 n) → ((k : ℕ) (b : Bool) (q : F) → Called g f (k, tt) b q → (q ≡ f) × (b ≡ test k)) → r ≡ all_below n test
all_from_range n test {s} u {f} {r} ran yields called = all_from_yields_List test u f r ran yields called ∙ list_all_below n test

bad_every : (n : ℕ) (f : ℕ → Bool) → ((k : ℕ) → k < n → f k ≡ true) → first_bad n f ≡ None
unfolding first_bad
bad_every zero f h = refl
bad_every (suc n) f h = rw (bad_every n f (λ k l. h k (omega arith)), h n (omega arith))

-- what `find` says of the lowest number that fails a test: `(0..n).find(|&k| !test(k))` is answered by `bad_from_first n f c.find.result
-- (first_from_Range _ _ _ c.find.result (λ k. f k ≡ false) (λ k. f k ≡ true) c.find.ensures.ran (λ k q h. search rules) (λ k q h. search rules))`
pub bad_from_first : (n : ℕ) (f : ℕ → Bool) (r : Option ℕ)
    → MatchOption r ((k : ℕ) → 0 ≤ k → k < n → f k ≡ true) (λ i. (0 ≤ i) × (i < n) × (f i ≡ false) × ((k : ℕ) → 0 ≤ k → k < i → f k ≡ true))
    → r ≡ first_bad n f
bad_from_first n f None h = sym (bad_every n f (λ k l. h k (omega arith) l))
bad_from_first n f (Some i) h = sym (bad_stop n i f h.1 (bad_every i f (λ k l. h.3 k (omega arith) l)) h.2)

-- a test of the first n elements of a list, by their places
pub list_all_places : {X : Type 0} (n : ℕ) (f : X → Bool) (xs : List X) (d : X) → n ≤ length xs → list_all f (take n xs) ≡ all_below n (λ k. f (get_or xs k d))
unfolding all_below
list_all_places zero f xs d le = refl
list_all_places (suc n) f xs d le =
    ap (list_all f) (take-suc xs n d (omega arith)) ∙ list_all-append f (take n xs) (get_or xs n d ∷ []) ∙ rw (one (f (get_or xs n d))) (ap (λ (b : Bool). b && f (get_or xs n d)) (list_all_places n f xs d (omega arith)))

pub list_all_whole : {X : Type 0} (n : ℕ) (f : X → Bool) (xs : List X) (d : X) → length xs ≡ n → list_all f xs ≡ all_below n (λ k. f (get_or xs k d))
list_all_whole n f xs d long =
    ap (list_all f) (sym (take_all n xs (omega arith))) ∙ list_all_places n f xs d (omega arith)
