-- What a chain over a range, and an array that is made from a function, have at each place.
use Rattle.std.proofs.Common.{◌≡◌, ℕ, zero, suc, ◌+◌, ◌<◌, ◌≤◌, Bool, true, false, ◌&&◌, List, map, length, get_or, refl, ap, ◌∙◌, subst, arith}
use Rattle.std.specs.List.{list_all, range_with_len}
use Rattle.std.specs.Array.{IsFromFnResult, IsFromFnResultFrom}
use Rattle.std.specs.Fn.{Called}
use Rattle.std.proofs.lemmas.List.{get_or-map, length-map}
use Rattle.std.proofs.lemmas.List.FromFn.{fill_by_all}
use denote.Param.Members.{Mut}

shift : (a b c : Bool) → (a && (b && c)) ≡ ((a && b) && c)
shift true b c = refl
shift false b c = refl

swap : (a b : Bool) → (a && b) ≡ (b && a)
swap true true = refl
swap true false = refl
swap false true = refl
swap false false = refl

last_from : (f : ℕ → Bool) (a n j : ℕ) → a + n ≡ j → list_all f (range_with_len a (suc n)) ≡ (list_all f (range_with_len a n) && f j)
last_from f a zero j e = let k : a ≡ j = omega arith in rw (← k) (swap (f a) true)
last_from f a (suc n) j e = ap (λ (b : Bool). f a && b) (last_from f (a + 1) n j (omega arith)) ∙ shift (f a) (list_all f (range_with_len (a + 1) n)) (f j)

-- the numbers up to n are tested: n, and those below it
pub list_all_last : (f : ℕ → Bool) (n : ℕ) → list_all f (range_with_len 0 (suc n)) ≡ (f n && list_all f (range_with_len 0 n))
list_all_last f n = last_from f 0 n n (omega arith) ∙ swap (list_all f (range_with_len 0 n)) (f n)

-- an array that is made from a function that changes nothing: v reads an element as h of its place
module _ {F B V : Type 0} (g : Mut F (ℕ × Unit {0}) B) (f : F) (ys : List B) (n : ℕ) (made : IsFromFnResult g f ys n) (v : B → V) (h : ℕ → V) (blank : V) (calls : (i : ℕ) (y : B) (q : F) → i < n → Called g f (i, tt) y q → (q ≡ f) × (v y ≡ h i)) where
  made_from : (a m i : ℕ) → a + m ≤ n → IsFromFnResultFrom g f ys a m → i < m → get_or (map v ys) (a + i) blank ≡ h (a + i)
  made_from a zero i le each lt = absurd (omega arith)
  made_from a (suc m) zero le each lt =
      let here = calls a each.1 each.0 (omega arith) each.3 in
      let at : a ≡ a + 0 = omega arith in
      let inside : a < length ys = omega (arith, made.long) in
      subst (λ (k : ℕ). get_or (map v ys) k blank ≡ h k) at (get_or-map v ys a each.1 blank inside ∙ ap v each.2.0 ∙ here.1)
  made_from a (suc m) (suc i) le each lt =
      let here = calls a each.1 each.0 (omega arith) each.3 in
      let at : (a + 1) + i ≡ a + suc i = omega arith in
      subst (λ (k : ℕ). get_or (map v ys) k blank ≡ h k) at (made_from (a + 1) m i (omega arith) (subst (λ (q : F). IsFromFnResultFrom g q ys (a + 1) m) here.0 each.4) (omega arith))

  pub made_at : (i : ℕ) → i < n → get_or (map v ys) i blank ≡ h i
  made_at i lt =
      let at : 0 + i ≡ i = omega arith in
      subst (λ (k : ℕ). get_or (map v ys) k blank ≡ h k) at (made_from 0 n i (omega arith) made.each lt)

  pub made_list : map v ys ≡ map h (range_with_len 0 n)
  made_list = fill_by_all h (map v ys) n blank (length-map ys v ∙ made.long) made_at
