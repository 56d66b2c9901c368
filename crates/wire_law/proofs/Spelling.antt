-- A reading and the bytes that it went over.
use Rattle.std.proofs.Common.{◌≡◌, ℕ, zero, suc, ◌+◌, ◌*◌, ◌/◌, ◌%◌, ◌<◌, ◌≤◌, Bool, true, false, List, [], ◌∷◌, ◌++◌, length, get_or, take, drop, set, replicate, Ok, Err, sym, refl, ap, ◌∙◌, subst, inl, inr, append_assoc, arith, length-set}
use lib.ListN.{length-replicate}
use Rattle.std.specs.List.{flat_map, AllByRecursion}
use Rattle.std.proofs.ByRecursion.{All-get_or, All-push}
use Rattle.std.proofs.Math.Seq.{take-suc-set}
use Rattle.std.proofs.lemmas.List.{drop_more, flat_map_more, length_push, get_or-set_same, get_or-set_other}
use Rattle.std.proofs.lemmas.Bool.{leb-true, cases_eq}
use Rattle.slip.specs.declared.Refusal.{Refusal}
use Rattle.wire.specs.Reading.{Parsed, ◌⨟◌, kept, byte_at, word_at, long_at, many}
use Rattle.wire_law.specs.Codes.{word_code, long_code}
use Rattle.wire_law.specs.Laws.{Bytes}

-- bs stands at p, and then what stands at q
abbrev pub Spells : List ℕ → ℕ → ℕ → List ℕ → Type 0
Spells s p q bs = drop p s ≡ bs ++ drop q s

pub join : (s : List ℕ) (p q r : ℕ) (a b : List ℕ) → Spells s p q a → Spells s q r b → Spells s p r (a ++ b)
join s p q r a b e f = e ∙ (ap (λ (t : List ℕ). a ++ t) f ∙ sym (append_assoc a b (drop r s)))

-- a chain that came to its end, opened
pub through : {A B P : Type 0} (d : Parsed A) (f : A → ℕ → Parsed B) (y : B) (q : ℕ) → (d ⨟ f) ≡ Ok (y, q)
    → ((x : A) (r : ℕ) → d ≡ Ok (x, r) → f x r ≡ Ok (y, q) → P) → P
through (Ok x) f y q e k = k x.0 x.1 refl e
through (Err z) f y q e k = let n : ◌≡◌ {A = ℕ} 0 1 = cc in absurd (omega arith)

-- what holds of a value and its next place, of the equal ones too
pub landed : {A : Type 0} (P : A → ℕ → Type 0) (v w : A) (q t : ℕ) → ◌≡◌ {A = Parsed A} (Ok (v, q)) (Ok (w, t)) → P v q → P w t
landed {A} P v w q t e h = let g : ◌≡◌ {A = A × ℕ} (v, q) (w, t) = cc in subst (λ (x : A × ℕ). P x.0 x.1) g h

-- a test that was passed
pub passed : {A : Type 0} (P : A → ℕ → Type 0) (b : Bool) (r : Refusal) (p : ℕ) (v w : A) (q t : ℕ) → kept b r p v q ≡ Ok (w, t)
    → (b ≡ true → P v q) → P w t
passed P true r p v w q t e h = landed P v w q t e (h refl)
passed P false r p v w q t e h = let n : ◌≡◌ {A = ℕ} 0 1 = cc in absurd (omega arith)

-- what each reading of a row keeps
pub many_keeps : {A C : Type 0} (put : C → ℕ → A → C) (d : ℕ → List ℕ → ℕ → Parsed A) (es : C) (s : List ℕ) (p : ℕ) (I : ℕ → C → ℕ → Type 0)
    → I 0 es p
    → (n : ℕ)
    → ((k : ℕ) (xs : C) (q r : ℕ) (x : A) → k < n → I k xs q → d k s q ≡ Ok (x, r) → I (suc k) (put xs k x) r)
    → (xs : C) (q : ℕ) → many put d es n s p ≡ Ok (xs, q) → I n xs q
unfolding many
many_keeps put d es s p I h zero step xs q e = landed (I 0) _ _ _ _ e h
many_keeps put d es s p I h (suc n) step xs q e =
    through (many put d es n s p) _ xs q e (λ ys t g f.
    through (d n s t) _ xs q f (λ x r a b.
    landed (I (suc n)) _ _ _ _ b
    (step n ys t r x (omega arith)
    (many_keeps put d es s p I h n (λ k zs v w y lt. step k zs v w y (omega arith)) ys t g) a)))

-- readings in a row into an array: the bytes of those read, and what each is
pub set_row : {A : Type 0} (s : List ℕ) (d : ℕ → List ℕ → ℕ → Parsed A) (code : A → List ℕ) (P : ℕ → A → Type 0)
    → ((k q r : ℕ) (x : A) → d k s q ≡ Ok (x, r) → Spells s q r (code x) × P k x)
    → (blank : A) (n m : ℕ) → m ≤ n → (p : ℕ) (xs : List A) (q : ℕ) → many set d (replicate n blank) m s p ≡ Ok (xs, q)
    → Spells s p q (flat_map code (take m xs)) × (length xs ≡ n) × ((i : ℕ) → i < m → P i (get_or xs i blank))
set_row {A} s d code P each blank n m le p xs q e =
    many_keeps set d (replicate n blank) s p
    (λ k ys t. Spells s p t (flat_map code (take k ys)) × (length ys ≡ n) × ((i : ℕ) → i < k → P i (get_or ys i blank)))
    (refl, length-replicate n blank, λ i lt. absurd (omega arith)) m
    (λ k ys t r x lt inv h.
    let got = each k t r x h in
    let in' : k < length ys = omega (arith, inv.1) in
    let more = take-suc-set ys k x in' in (
      subst (λ (l : List ℕ). Spells s p r l) (flat_map_more code [] (take k ys) x ∙ ap (flat_map code) (sym more))
          (join s p t r (flat_map code (take k ys)) (code x) inv.0 got.0),
      length-set ys k x ∙ inv.1,
      λ i lt.
          elim (cases_eq i k) [
            | inl same ↦ subst (λ (j : ℕ). P j (get_or (set ys k x) j blank)) (sym same) (subst (P k) (sym (get_or-set_same ys k x blank in')) got.1)
            | inr other ↦ subst (P i) (sym (get_or-set_other ys k i x blank other)) (inv.2 i (omega (arith, other)))
          ],
    ))
    xs q e

-- readings in a row into a list: the bytes of all, how many there are, and what each is
pub list_row : {A : Type 0} (s : List ℕ) (d : List ℕ → ℕ → Parsed A) (code : A → List ℕ) (P : A → Type 0)
    → ((q r : ℕ) (x : A) → d s q ≡ Ok (x, r) → Spells s q r (code x) × P x)
    → (n p : ℕ) (xs : List A) (q : ℕ) → many (λ ys _ y. ys ++ y ∷ []) (λ _. d) [] n s p ≡ Ok (xs, q)
    → Spells s p q (flat_map code xs) × (length xs ≡ n) × AllByRecursion P xs
list_row s d code P each n p xs q e =
    many_keeps (λ ys _ y. ys ++ y ∷ []) (λ _. d) [] s p
    (λ k ys t. Spells s p t (flat_map code ys) × (length ys ≡ k) × AllByRecursion P ys)
    (refl, refl, tt) n
    (λ k ys t r y lt inv h.
    let got = each t r y h in (
      subst (λ (l : List ℕ). Spells s p r l) (flat_map_more code [] ys y) (join s p t r (flat_map code ys) (code y) inv.0 got.0),
      omega (arith, inv.1, length_push ys y),
      All-push P ys y inv.2 got.1,
    ))
    xs q e

word_digits : (a b : ℕ) → b < 256 → a ∷ b ∷ [] ≡ word_code (256 * a + b)
word_digits a b h =
    let e : a ≡ (256 * a + b) / 256 = omega arith in
    let f : b ≡ (256 * a + b) % 256 = omega arith in
    cc

long_digits : (a b c d : ℕ) → b < 256 → c < 256 → d < 256 → a ∷ b ∷ c ∷ d ∷ [] ≡ long_code (16777216 * a + 65536 * b + 256 * c + d)
long_digits a b c d h i j =
    let n = 16777216 * a + 65536 * b + 256 * c + d in
    let e : a ≡ n / 16777216 = omega arith in
    let f : b ≡ n / 65536 % 256 = omega arith in
    let g : c ≡ n / 256 % 256 = omega arith in
    let k : d ≡ n % 256 = omega arith in
    cc

two : (s : List ℕ) (p : ℕ) → p + 2 ≤ length s → Spells s p (p + 2) (get_or s p 0 ∷ get_or s (p + 1) 0 ∷ [])
two s p h =
    let a : p < length s = omega arith in
    let b : p + 1 < length s = omega arith in
    let e : p + 1 + 1 ≡ p + 2 = omega arith in
    drop_more s p 0 a ∙ ap (λ (t : List ℕ). get_or s p 0 ∷ t) (drop_more s (p + 1) 0 b ∙ ap (λ (n : ℕ). get_or s (p + 1) 0 ∷ drop n s) e)

module _ (s : List ℕ) (small : Bytes s) (p : ℕ) where
  pub byte_spells : (v q : ℕ) → byte_at s p ≡ Ok (v, q) → Spells s p q (v ∷ [])
  byte_spells v q e =
      passed (λ (w t : ℕ). Spells s p t (w ∷ [])) _ _ _ _ _ _ _ e
      (λ h. let l = leb-true (p + 1) (length s) h in drop_more s p 0 (omega arith))

  pub word_spells : (v q : ℕ) → word_at s p ≡ Ok (v, q) → Spells s p q (word_code v)
  word_spells v q e =
      passed (λ (w t : ℕ). Spells s p t (word_code w)) _ _ _ _ _ _ _ e
      (λ h. let l = leb-true (p + 2) (length s) h in
      let b : get_or s (p + 1) 0 < 256 = All-get_or (λ n. n < 256) s (p + 1) 0 (omega arith) small in
      two s p l ∙ ap (λ (t : List ℕ). t ++ drop (p + 2) s) (word_digits (get_or s p 0) (get_or s (p + 1) 0) b))

  pub long_spells : (v q : ℕ) → long_at s p ≡ Ok (v, q) → Spells s p q (long_code v)
  long_spells v q e =
      passed (λ (w t : ℕ). Spells s p t (long_code w)) _ _ _ _ _ _ _ e
      (λ h. let l = leb-true (p + 4) (length s) h in
      let f : p + 2 + 2 ≡ p + 4 = omega arith in
      let g : p + 2 + 1 ≡ p + 3 = omega arith in
      let at : (i : ℕ) → i < length s → get_or s i 0 < 256 = λ i lt. All-get_or (λ n. n < 256) s i 0 lt small in
      let all = join s p (p + 2) (p + 2 + 2) (get_or s p 0 ∷ get_or s (p + 1) 0 ∷ []) (get_or s (p + 2) 0 ∷ get_or s (p + 2 + 1) 0 ∷ []) (two s p (omega arith)) (two s (p + 2) (omega arith)) in
      let all' = subst (λ (n : ℕ). Spells s p n (get_or s p 0 ∷ get_or s (p + 1) 0 ∷ get_or s (p + 2) 0 ∷ get_or s (p + 2 + 1) 0 ∷ [])) f all in
      subst (λ (n : ℕ). Spells s p (p + 4) (get_or s p 0 ∷ get_or s (p + 1) 0 ∷ get_or s (p + 2) 0 ∷ get_or s n 0 ∷ [])) g all'
      ∙ ap (λ (t : List ℕ). t ++ drop (p + 4) s)
      (long_digits (get_or s p 0) (get_or s (p + 1) 0) (get_or s (p + 2) 0) (get_or s (p + 3) 0)
      (at (p + 1) (omega arith)) (at (p + 2) (omega arith)) (at (p + 3) (omega arith))))
