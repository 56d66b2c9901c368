-- A table of sixteen places that takes one element after another.
use Rattle.std.proofs.Common.{◌≡◌, ℕ, zero, suc, ◌+◌, ◌<◌, ◌≤◌, List, [], ◌∷◌, ◌++◌, length, get_or, take, set, Some, None, sym, refl, ap, ◌∙◌, arith}
use Rattle.std.specs.List.{slice_get}
use Rattle.std.proofs.lemmas.List.{take_more_set, take_all, length-take, length-append, get_or-take, take-append-le, append_assoc, append-nil}
use Rattle.std.proofs.lemmas.Option.{slice_get-get_or, slice_get_past}

module _ {X : Type 0} where
  length_prefix : (xs : List X) (n m : ℕ) → length xs ≡ m → n ≤ m → length (take n xs) ≡ n
  length_prefix xs n m long le = length-take n xs ∙ omega arith

  pub put_more : (xs : List X) (n m : ℕ) (x : X) → length xs ≡ m → n < m → take (n + 1) (set xs n x) ≡ take m (take n xs ++ x ∷ [])
  put_more xs n m x long lt =
      let le : n < length xs = omega arith in
      let p = length_prefix xs n m long (omega arith) in
      let q = length-append (take n xs) (x ∷ []) in
      take_more_set xs n x le ∙ sym (take_all m (take n xs ++ x ∷ []) (omega arith))

  pub put_full : (xs : List X) (n m : ℕ) (x : X) → length xs ≡ m → n ≤ m → m ≤ n → take n xs ≡ take m (take n xs ++ x ∷ [])
  put_full xs n m x long le ge =
      let p = length_prefix xs n m long le in
      sym (take-append-le m (take n xs) (x ∷ []) (omega arith) ∙ take_all m (take n xs) (omega arith))

  pub get_taken : (xs : List X) (n i : ℕ) (d : X) → n ≤ length xs → i < n → Some (get_or xs i d) ≡ slice_get (take n xs) i
  get_taken xs n i d le lt =
      let p = length-take n xs in
      let q : i < length (take n xs) = omega arith in
      ap Some (sym (get_or-take n xs i d lt)) ∙ sym (slice_get-get_or (take n xs) i d q)

  pub get_past : (xs : List X) (n i : ℕ) → n ≤ i → None ≡ slice_get (take n xs) i
  get_past xs n i le =
      let p = length-take n xs in
      let q : length (take n xs) ≤ i = omega arith in
      sym (slice_get_past (take n xs) i q)

  -- what is cut off does not come back
  pub capped_join : (m : ℕ) (xs ys : List X) → take m (take m xs ++ ys) ≡ take m (xs ++ ys)
  capped_join zero xs ys = refl
  capped_join (suc m) [] ys = refl
  capped_join (suc m) (x ∷ xs) ys = ap (λ (l : List X). x ∷ l) (capped_join m xs ys)

  -- one more part of a list that is taken up part by part
  pub capped_more : (m : ℕ) (start so_far more now next : List X) → now ≡ take m (start ++ so_far) → next ≡ take m (now ++ more) → next ≡ take m (start ++ (so_far ++ more))
  capped_more m start so_far more now next h e =
      e ∙ ap (λ (l : List X). take m (l ++ more)) h ∙ capped_join m (start ++ so_far) more ∙ ap (take m) (append_assoc start so_far more)

  pub capped_start : (m : ℕ) (start : List X) → length start ≤ m → start ≡ take m (start ++ [])
  capped_start m start le = sym (ap (take m) (append-nil start) ∙ take_all m start le)
