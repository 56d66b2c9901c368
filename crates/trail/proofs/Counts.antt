-- Six counts, one by one.
use Rattle.std.proofs.Common.{◌≡◌, ℕ, zero, suc, ◌+◌, ◌<◌, ◌≤◌, true, leb, List, [], ◌∷◌, get_or, sym, ap, subst, ◌∙◌, arith}
use Rattle.std.specs.Array.{IsFromFnResultFrom, MapsFrom, list_steps}
use Rattle.std.specs.Fn.{Called, Mut}
use Rattle.std.specs.Iterator.{AlwaysYields}
use Rattle.std.proofs.lemmas.Bool.{leb-true, le-leb}
use Rattle.model.proofs.Below.{all_at, all_every}
use Rattle.trail.specs.Tests.{fits}

pub fits_at : (n : ℕ) (v : List ℕ) (i : ℕ) → fits n v ≡ true → i < 6 → get_or v i 0 + n ≤ 1000000000
unfolding fits
fits_at n v i h lt = leb-true _ _ (all_at 6 i (λ i. leb (get_or v i 0 + n) 1000000000) h lt)

-- what a closure that keeps its captures makes of the numbers from i on
pub made_at : {F : Type 0} {g : Mut F (ℕ × Unit {0}) ℕ} (h : ℕ → ℕ) (f : F) (ys : List ℕ) (n i : ℕ) → ((k y : ℕ) (q : F) → Called g f (k, tt) y q → (q ≡ f) × (y ≡ h k)) → IsFromFnResultFrom g f ys i n → (k j : ℕ) → i + k ≡ j → k < n → get_or ys j 0 ≡ h j
made_at h f ys zero i kept made k j e lt = absurd (omega arith)
made_at h f ys (suc n) i kept made zero j e lt =
    let same : i ≡ j = omega arith in
    rw (← same) (made.2.1 0 ∙ (kept i made.1 made.0 made.3).1)
made_at {g = g} h f ys (suc n) i kept made (suc k) j e lt =
    made_at h f ys n (i + 1) kept (subst (λ p. IsFromFnResultFrom g p ys (i + 1) n) (kept i made.1 made.0 made.3).0 made.4) k j (omega arith) (omega arith)

-- and of the elements of a list
pub mapped_at : {F : Type 0} {g : Mut F (ℕ × Unit {0}) ℕ} (h : ℕ → ℕ) (f : F) (xs ys : List ℕ) (n i : ℕ) → ((x y : ℕ) (q : F) → Called g f (x, tt) y q → (q ≡ f) × (y ≡ h x)) → MapsFrom g f xs ys i n → (k j : ℕ) → i + k ≡ j → k < n → get_or ys j 0 ≡ h (get_or xs j 0)
mapped_at h f xs ys zero i kept made k j e lt = absurd (omega arith)
mapped_at h f xs ys (suc n) i kept made zero j e lt =
    let same : i ≡ j = omega arith in
    rw (← same) (made.4.1 0 ∙ (kept made.1 made.2 made.0 made.5).1 ∙ ap h (sym (made.3.1 0)))
mapped_at {g = g} h f xs ys (suc n) i kept made (suc k) j e lt =
    mapped_at h f xs ys n (i + 1) kept (subst (λ p. MapsFrom g p xs ys (i + 1) n) (kept made.1 made.2 made.0 made.5).0 made.6) k j (omega arith) (omega arith)

-- the elements of a list, one by one
pub list_gives : {A : Type 0} (xs : List A) → AlwaysYields list_steps (λ (x : A). x) xs xs
list_gives [] = λ x t e. cc
list_gives {A} (y ∷ ys) =
    ((λ t e. cc), λ x t e. let same : ys ≡ t = cc in let first : x ≡ y = cc in (first, subst (λ (zs : List A). AlwaysYields list_steps (λ (x : A). x) zs ys) same (list_gives ys)))

pub fits_all : (n : ℕ) (v : List ℕ) → ((i : ℕ) → i < 6 → get_or v i 0 + n ≤ 1000000000) → fits n v ≡ true
unfolding fits
fits_all n v h = all_every 6 (λ i. leb (get_or v i 0 + n) 1000000000) (λ i lt. le-leb _ _ (h i lt))
