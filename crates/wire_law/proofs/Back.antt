-- Bytes read back.
use Rattle.std.proofs.Common.{◌≡◌, ℕ, zero, suc, ◌+◌, ◌/◌, ◌%◌, ◌<◌, ◌≤◌, Bool, true, List, [], ◌∷◌, ◌++◌, length, get_or, take, drop, Ok, sym, refl, ap, ◌∙◌, subst, append_assoc, append-nil, arith, length-drop}
use Rattle.std.proofs.ByRecursion.{All-get_or}
use Rattle.std.proofs.Math.Seq.{take-suc}
use Rattle.std.proofs.lemmas.List.{get_or-drop, drop-drop, take_all, flat_map_more}
use Rattle.std.proofs.lemmas.Bool.{le-leb}
use Rattle.std.specs.List.{flat_map, AllByRecursion}
use Rattle.slip.specs.declared.Refusal.{Refusal}
use Rattle.slip.specs.declared.Refusal.TheVariants.{Truncated}
use Rattle.wire.specs.Reading.{Parsed, ◌⨟◌, kept, field, byte_at, word_at, long_at, many}
use Rattle.wire_law.specs.Codes.{word_code, long_code}

-- t is what s has from the place p on
abbrev pub Rest : List ℕ → ℕ → List ℕ → Type 0
Rest s p t = (drop p s ≡ t) × (p ≤ length s)

-- wherever bs stands in s, d reads v from it and goes on behind it
abbrev pub Back : {A : Type 0} → List ℕ → (ℕ → Parsed A) → List ℕ → A → Type 0
Back s d bs v = (p : ℕ) (t : List ℕ) → Rest s p (bs ++ t) → (q : ℕ) × (d p ≡ Ok (v, q)) × Rest s q t

-- the bytes of the items, and of one more
pub joined_more_at : {A : Type 0} (code : A → List ℕ) (xs : List A) (k : ℕ) (blank : A) → k < length xs
    → flat_map code (take k xs) ++ code (get_or xs k blank) ≡ flat_map code (take (suc k) xs)
joined_more_at code xs k blank lt = flat_map_more code [] (take k xs) (get_or xs k blank) ∙ ap (flat_map code) (sym (take-suc xs k blank lt))

module _ (s : List ℕ) where
  pub back_ok : {A : Type 0} (v : A) → Back s (λ p. Ok (v, p)) [] v
  back_ok v p t h = (p, refl, h)

  -- what is read next may depend on where the first began
  pub back_from : {A B : Type 0} (d : ℕ → Parsed A) (f : ℕ → A → ℕ → Parsed B) (bs cs : List ℕ) (v : A) (w : B)
      → Back s d bs v → ((p : ℕ) → Back s (f p v) cs w) → Back s (λ p. d p ⨟ f p) (bs ++ cs) w
  back_from {A} d f bs cs v w a b p t h =
      let x = a p (cs ++ t) (h.0 ∙ append_assoc bs cs t, h.1) in
      let y = b p x.0 t x.2 in
      (y.0, ap (λ (z : Parsed A). z ⨟ f p) x.1 ∙ y.1, y.2)

  pub back_then : {A B : Type 0} (d : ℕ → Parsed A) (f : A → ℕ → Parsed B) (bs cs : List ℕ) (v : A) (w : B)
      → Back s d bs v → Back s (f v) cs w → Back s (λ p. d p ⨟ f) (bs ++ cs) w
  back_then d f bs cs v w a b = back_from d (λ _. f) bs cs v w a (λ _. b)

  pub back_kept : {A B : Type 0} (d : ℕ → Parsed A) (test : A → Bool) (r : Refusal) (g : A → B) (bs : List ℕ) (v : A) → test v ≡ true
      → Back s d bs v → Back s (λ p. d p ⨟ λ x q. kept (test x) r p (g x) q) bs (g v)
  back_kept {A} d test r g bs v ok a p t h =
      let x = a p t h in
      (x.0, ap (λ (z : Parsed A). z ⨟ λ y q. kept (test y) r p (g y) q) x.1 ∙ ap (λ (b : Bool). kept b r p (g v) x.0) ok, x.2)

  pub back_same : {A : Type 0} (d : ℕ → Parsed A) (bs cs : List ℕ) (v w : A) → bs ≡ cs → v ≡ w → Back s d bs v → Back s d cs w
  back_same d bs cs v w e f a = subst (λ (x : _). Back s d cs x) f (subst (λ (l : List ℕ). Back s d l v) e a)

  -- readings in a row: bytes k and total k are those of the first k items
  pub many_back : {A C : Type 0} (put : C → ℕ → A → C) (d : ℕ → List ℕ → ℕ → Parsed A) (code : A → List ℕ) (item : ℕ → A) (bytes : ℕ → List ℕ) (total : ℕ → C)
      → [] ≡ bytes 0 → (n : ℕ)
      → ((k : ℕ) → k < n → Back s (d k s) (code (item k)) (item k))
      → ((k : ℕ) → k < n → bytes k ++ code (item k) ≡ bytes (suc k))
      → ((k : ℕ) → k < n → put (total k) k (item k) ≡ total (suc k))
      → Back s (many put d (total 0) n s) (bytes n) (total n)
  unfolding many
  many_back put d code item bytes total none zero each more next = back_same _ [] (bytes 0) (total 0) (total 0) none refl (back_ok (total 0))
  many_back put d code item bytes total none (suc n) each more next =
      let x = item n in
      let lt : n < suc n = omega arith in
      back_same _ (bytes n ++ (code x ++ [])) (bytes (suc n)) (put (total n) n x) (total (suc n))
      (ap (λ (l : List ℕ). bytes n ++ l) (append-nil (code x)) ∙ more n lt) (next n lt)
      (back_then (many put d (total 0) n s) _ (bytes n) (code x ++ []) (total n) (put (total n) n x)
      (many_back put d code item bytes total none n (λ k l. each k (omega arith)) (λ k l. more k (omega arith)) (λ k l. next k (omega arith)))
      (back_then (d n s) _ (code x) [] x (put (total n) n x) (each n lt) (back_ok (put (total n) n x))))

  -- readings in a row into a list
  pub list_back : {A : Type 0} (d : List ℕ → ℕ → Parsed A) (code : A → List ℕ) (P : A → Type 0) (blank : A)
      → ((x : A) → P x → Back s (d s) (code x) x)
      → (xs : List A) → AllByRecursion P xs → Back s (many (λ ys _ y. ys ++ y ∷ []) (λ _. d) [] (length xs) s) (flat_map code xs) xs
  list_back d code P blank each xs fit =
      let whole = take_all (length xs) xs (omega arith) in
      back_same _ _ _ _ _ (ap (flat_map code) whole) whole
      (many_back (λ ys _ y. ys ++ y ∷ []) (λ _. d) code (λ k. get_or xs k blank) (λ k. flat_map code (take k xs)) (λ k. take k xs)
      refl (length xs)
      (λ k lt. each (get_or xs k blank) (All-get_or P xs k blank lt fit))
      (λ k lt. joined_more_at code xs k blank lt)
      (λ k lt. sym (take-suc xs k blank lt)))

  at_drop : (p b : ℕ) (t : List ℕ) → drop p s ≡ b ∷ t → (p + 1 ≤ length s) × (get_or s p 0 ≡ b) × (drop (p + 1) s ≡ t)
  at_drop p b t h =
      let l = sym (length-drop p s) ∙ ap length h in
      let z : p + 0 ≡ p = omega arith in (
        omega arith,
        sym (ap (λ (n : ℕ). get_or s n 0) z) ∙ (sym (get_or-drop p s 0 0) ∙ ap (λ (l : List ℕ). get_or l 0 0) h),
        sym (drop-drop 1 p s) ∙ ap (drop 1) h,
      )

  field_back : (p n v w : ℕ) → p + n ≤ length s → v ≡ w → field s p n v ≡ Ok (w, p + n)
  field_back p n v w le e =
      ap (λ (b : Bool). kept b Truncated p v (p + n)) (le-leb (p + n) (length s) le) ∙ ap (λ (x : ℕ). Ok (x, p + n)) e

  pub back_byte : (b : ℕ) → Back s (byte_at s) (b ∷ []) b
  back_byte b p t h = let x = at_drop p b t h.0 in (p + 1, field_back p 1 _ b x.0 x.1, (x.2, x.0))

  pub back_word : (n : ℕ) → Back s (word_at s) (word_code n) n
  back_word n p t h =
      let x = at_drop p (n / 256) (n % 256 ∷ t) h.0 in
      let y = at_drop (p + 1) (n % 256) t x.2 in
      let e : p + 1 + 1 ≡ p + 2 = omega arith in
      let le : p + 2 ≤ length s = omega (arith, y.0) in
      (p + 2, field_back p 2 _ n le (omega (arith, x.1, y.1)), (subst (λ (k : ℕ). drop k s ≡ t) e y.2, le))

  pub back_long : (n : ℕ) → Back s (long_at s) (long_code n) n
  back_long n p t h =
      let x = at_drop p (n / 16777216) _ h.0 in
      let y = at_drop (p + 1) (n / 65536 % 256) _ x.2 in
      let e : p + 1 + 1 ≡ p + 2 = omega arith in
      let f : p + 2 + 1 ≡ p + 3 = omega arith in
      let g : p + 3 + 1 ≡ p + 4 = omega arith in
      let z = at_drop (p + 2) (n / 256 % 256) (n % 256 ∷ t) (subst (λ (k : ℕ). drop k s ≡ n / 256 % 256 ∷ n % 256 ∷ t) e y.2) in
      let u = at_drop (p + 3) (n % 256) t (subst (λ (k : ℕ). drop k s ≡ n % 256 ∷ t) f z.2) in
      let le : p + 4 ≤ length s = omega (arith, u.0) in
      (p + 4, field_back p 4 _ n le (omega (arith, x.1, y.1, z.1, u.1)), (subst (λ (k : ℕ). drop k s ≡ t) g u.2, le))
