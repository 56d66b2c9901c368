-- A cover and its bytes.
use Rattle.std.proofs.Common.{◌≡◌, ℕ, ◌+◌, ◌-◌, ◌/◌, ◌%◌, ◌<◌, ◌≤◌, Bool, true, false, cond, ◌&&◌, eqb, ltb, leb, List, [], ◌∷◌, ◌++◌, length, ℤ, pos, negsuc, Ok, sym, refl, ap, ◌∙◌, subst, append-nil, arith}
use lib.Signed.{mag}
use Rattle.std.proofs.lemmas.Int.{ints}
use Rattle.std.proofs.lemmas.Bool.{ltb-true, ltb-false, eqb-true, eqb-false, le-leb, lt-ltb, le-ltb, eq-eqb, ne_eqb, and_from}
use Rattle.std.specs.List.{flat_map, AllByRecursion}
use Rattle.slip.specs.declared.Refusal.TheVariants.{BadCount}
use Rattle.clocks.specs.declared.Gap.{Gap}
use Rattle.clocks.specs.declared.Sign.{Sign}
use Rattle.clocks.specs.declared.Sign.TheVariants.{Below, AtMost}
use Rattle.wire.specs.Reading.{byte_at, word_at}
use Rattle.wire.specs.CoverFormat.{signed, signed_at, half, sign_of, gap_of, gap_at, gaps_at, entry_at}
use Rattle.wire.specs.Files.{count_at, close_at, entries_at, cover_at}
use Rattle.wire_law.specs.Codes.{word_code, signed_code, gap_word, gap_code, entry_code, cover_code}
use Rattle.wire_law.specs.Laws.{Bytes, GapFits, EntryFits, CoverSpelt, CoverFits, CoverRead}
use Rattle.wire_law.proofs.Spelling.{Spells, join, through, landed, passed, list_row, byte_spells, word_spells}
use Rattle.wire_law.proofs.FileSpelling.{all_spelt, count_spells, sized_ok}
use Rattle.wire_law.proofs.Fitting.{byte_fits, count_fits, word_fits}
use Rattle.wire_law.proofs.Back.{Rest, Back, back_ok, back_then, back_kept, back_same, list_back, back_byte, back_word}
use Rattle.wire_law.proofs.Sizes.{Short, both, joined_short, one, word_short}
use Rattle.wire_law.proofs.FileBack.{sized_back, ended}

-- by whether a number is even
parity : (n : ℕ) (a b : Sign) (P : Sign → Type 0) → (n % 2 ≡ 0 → P a) → (n % 2 ≡ 1 → P b) → P (cond (eqb (n % 2) 0) a b)
parity n a b P f g =
    let go : (e : Bool) → eqb (n % 2) 0 ≡ e → P (cond e a b)
    = λ e. elim e as (λ e. eqb (n % 2) 0 ≡ e → P (cond e a b)) [
      | true ↦ λ h. f (eqb-true (n % 2) 0 h)
      | false ↦ λ h. let z = eqb-false (n % 2) 0 h in g (omega (arith, z))
    ] in
    go (eqb (n % 2) 0) refl

-- a word is the one that its sign and its half make
word_is : (w : ℤ) → gap_word (sign_of w) (half w) ≡ w
word_is (pos n) = parity n Below AtMost (λ s. gap_word s (pos (n / 2)) ≡ pos n) (λ e. omega (arith, ints)) (λ e. omega (arith, ints))
word_is (negsuc n) = parity n AtMost Below (λ s. gap_word s (negsuc (n / 2)) ≡ negsuc n) (λ e. omega (arith, ints)) (λ e. omega (arith, ints))

half_small : (w : ℤ) → mag w < 32768 → mag (half w) < 16384
half_small (pos n) h = omega arith
half_small (negsuc n) h = omega arith

word_small : (s : Sign) (c : ℤ) → mag c < 16384 → mag (gap_word s c) < 32768
word_small Below (pos n) h = omega arith
word_small AtMost (pos n) h = omega arith
word_small Below (negsuc n) h = omega arith
word_small AtMost (negsuc n) h =
    let e : negsuc (n + n) ≡ gap_word AtMost (negsuc n) = omega (arith, ints) in
    subst (λ (z : ℤ). mag z < 32768) e (omega arith)

-- sign and half of a word that was put together
parts_of : (s : Sign) (c w : ℤ) → gap_word s c ≡ w → (sign_of w ≡ s) × (half w ≡ c)
parts_of Below c (pos n) e = (ap (λ (b : Bool). cond b Below AtMost) (eq-eqb (n % 2) 0 (omega (arith, ints))), omega (arith, ints))
parts_of AtMost c (pos n) e = (ap (λ (b : Bool). cond b Below AtMost) (ne_eqb (n % 2) 0 (λ z. omega (arith, ints))), omega (arith, ints))
parts_of Below c (negsuc n) e = (ap (λ (b : Bool). cond b AtMost Below) (ne_eqb (n % 2) 0 (λ z. omega (arith, ints))), omega (arith, ints))
parts_of AtMost c (negsuc n) e = (ap (λ (b : Bool). cond b AtMost Below) (eq-eqb (n % 2) 0 (omega (arith, ints))), omega (arith, ints))

signed_code_is : (v : ℕ) → v < 65536 → (word_code v ≡ signed_code (signed v)) × (mag (signed v) < 32768)
signed_code_is v lt =
    let go : (b : Bool) → ltb v 32768 ≡ b → (word_code v ≡ signed_code (cond b (pos v) (negsuc (65535 - v)))) × (mag (cond b (pos v) (negsuc (65535 - v))) < 32768)
    = λ b. elim b as (λ b. ltb v 32768 ≡ b → (word_code v ≡ signed_code (cond b (pos v) (negsuc (65535 - v)))) × (mag (cond b (pos v) (negsuc (65535 - v))) < 32768)) [
      | true ↦ λ h. (refl, ltb-true v 32768 h)
      | false ↦ λ h. let l = ltb-false v 32768 h in let e : v ≡ 65535 - (65535 - v) = omega arith in (ap word_code e, omega arith)
    ] in
    go (ltb v 32768) refl

module _ (s : List ℕ) (small : Bytes s) where
  signed_spells : (p : ℕ) (w : ℤ) (q : ℕ) → signed_at s p ≡ Ok (w, q) → Spells s p q (signed_code w) × (mag w < 32768)
  signed_spells p w q h =
      through (word_at s p) _ w q h (λ v r a h.
      let c = signed_code_is v (word_fits s small p v r a) in
      landed (λ (x : ℤ) (t : ℕ). Spells s p t (signed_code x) × (mag x < 32768)) _ w r q h
      (subst (λ (l : List ℕ). Spells s p r l) c.0 (word_spells s small p v r a), c.1))

  gap_spells : (p : ℕ) (g : Gap) (q : ℕ) → gap_at s p ≡ Ok (g, q) → Spells s p q (gap_code g) × GapFits g
  gap_spells p g q h =
      through (byte_at s p) _ g q h (λ i r a h.
      through (byte_at s r) _ g q h (λ j t b h.
      through (signed_at s t) _ g q h (λ w u c h.
      landed (λ (x : Gap) (y : ℕ). Spells s p y (gap_code x) × GapFits x) _ g u q h
      (let c' = signed_spells t w u c in (
        join s p r u (i ∷ []) (j ∷ signed_code (gap_word (sign_of w) (half w))) (byte_spells s small p i r a)
            (join s r t u (j ∷ []) (signed_code (gap_word (sign_of w) (half w))) (byte_spells s small r j t b)
            (subst (λ (z : ℤ). Spells s t u (signed_code z)) (sym (word_is w)) c'.0)),
        (byte_fits s small p i r a, byte_fits s small r j t b, half_small w c'.1),
      )))))

  entry_spells : (p : ℕ) (e : ℕ × List Gap) (q : ℕ) → entry_at s p ≡ Ok (e, q) → Spells s p q (entry_code e) × EntryFits e
  unfolding gaps_at
  entry_spells p e q h =
      through (word_at s p) _ e q h (λ c r a h.
      through (byte_at s r) _ e q h (λ n t b h.
      through (gaps_at n s t) _ e q h (λ gs u d h.
      landed (λ (x : ℕ × List Gap) (y : ℕ). Spells s p y (entry_code x) × EntryFits x) _ e u q h
      (let d' = list_row s gap_at gap_code GapFits (λ q r g f. gap_spells q g r f) n t gs u d in
      let n' = byte_fits s small r n t b in (
        join s p r u (word_code c) (length gs ∷ flat_map gap_code gs) (word_spells s small p c r a)
            (join s r t u (length gs ∷ []) (flat_map gap_code gs)
            (subst (λ (m : ℕ). Spells s r t (m ∷ [])) (sym d'.1) (byte_spells s small r n t b)) d'.0),
        (word_fits s small p c r a, omega (arith, d'.1, n'), d'.2),
      )))))

  cover_spells : (entries : List (ℕ × List Gap)) (q : ℕ) → cover_at s ≡ Ok (entries, q)
      → (s ≡ cover_code entries) × (length entries ≤ 256) × AllByRecursion EntryFits entries
  unfolding entries_at
  cover_spells entries q h =
      through (count_at 0 256 s 0) _ entries q h (λ n r a h.
      through (entries_at n s r) _ entries q h (λ es t b h.
      through (close_at s t) _ entries q h (λ x u c h.
      landed (λ (y : List (ℕ × List Gap)) (w : ℕ). (s ≡ cover_code y) × (length y ≤ 256) × AllByRecursion EntryFits y) es entries u q h
      (passed (λ (y : Unit {0}) (w : ℕ). (s ≡ cover_code es) × (length es ≤ 256) × AllByRecursion EntryFits es) _ _ _ tt x t u c (λ last.
      let end = eqb-true t (length s) last in
      let few = count_fits s small 0 256 0 n r a in
      let b' = list_row s entry_at entry_code EntryFits (λ q r e f. entry_spells q e r f) n r es t b in (
        all_spelt s t (cover_code es) (omega arith)
            (join s 0 r t (word_code (length es)) (flat_map entry_code es) (subst (λ (m : ℕ). Spells s 0 r (word_code m)) (sym b'.1) (count_spells s small 0 256 0 n r a)) b'.0),
        omega (arith, few.1, b'.1),
        b'.2,
      ))))))

pub cover_spelt : CoverSpelt
cover_spelt s entries small e = sized_ok s (cover_at s) entries e (λ q h. (cover_spells s small entries q h).0)

pub cover_fits : CoverFits
cover_fits s entries small e = sized_ok s (cover_at s) entries e (λ q h. let got = cover_spells s small entries q h in (got.1, got.2))

signed_short : (w : ℤ) → mag w < 32768 → Short 2 (signed_code w)
signed_short (pos n) h = word_short n (omega arith)
signed_short (negsuc n) h = word_short (65535 - n) (omega arith)

gap_short : (g : Gap) → GapFits g → Short 4 (gap_code g)
gap_short g fit =
    both (one {b = g.first} fit.0)
    (both (one {b = g.second} fit.1) (signed_short (gap_word g.sign g.constant) (word_small g.sign g.constant fit.2)))

entry_short : (e : ℕ × List Gap) → EntryFits e → Short 1023 (entry_code e)
entry_short e fit =
    let all = both (word_short e.0 fit.0) (both (one {b = length e.1} fit.1) (joined_short GapFits gap_code 4 gap_short e.1 fit.2)) in
    record { bytes = all.bytes; most = omega (arith, all.most, fit.1) }

-- the word's code, read back
signed_is : (n : ℕ) → n < 32768 → (signed n ≡ pos n) × (signed (65535 - n) ≡ negsuc n)
signed_is n h =
    let e : 65535 - (65535 - n) ≡ n = omega arith in (
      ap (λ (b : Bool). cond b (pos n) (negsuc (65535 - n))) (lt-ltb n 32768 h),
      ap (λ (b : Bool). cond b (pos (65535 - n)) (negsuc (65535 - (65535 - n)))) (le-ltb (65535 - n) 32768 (omega arith)) ∙ ap negsuc e,
    )

module _ (s : List ℕ) where
  back_signed : (w : ℤ) → mag w < 32768 → Back s (signed_at s) (signed_code w) w
  back_signed (pos n) h =
      back_then s (word_at s) _ (word_code n) [] n (pos n) (back_word s n)
      (back_same s _ [] [] (signed n) (pos n) refl (signed_is n h).0 (back_ok s (signed n)))
  back_signed (negsuc n) h =
      let m = 65535 - n in
      back_then s (word_at s) _ (word_code m) [] m (negsuc n) (back_word s m)
      (back_same s _ [] [] (signed m) (negsuc n) refl (signed_is n h).1 (back_ok s (signed m)))

  back_gap : (g : Gap) → GapFits g → Back s (gap_at s) (gap_code g) g
  back_gap g fit =
      let w = gap_word g.sign g.constant in
      let is = parts_of g.sign g.constant w refl in
      let same : gap_of g.first g.second w ≡ g
      = λ k. record { first = g.first; second = g.second; sign = is.0 k; constant = is.1 k } in
      back_then s (byte_at s) _ (g.first ∷ []) (g.second ∷ signed_code w) g.first g (back_byte s g.first)
      (back_then s (byte_at s) _ (g.second ∷ []) (signed_code w) g.second g (back_byte s g.second)
      (back_same s _ (signed_code w ++ []) (signed_code w) g g (append-nil (signed_code w)) refl
      (back_then s (signed_at s) _ (signed_code w) [] w g (back_signed w (word_small g.sign g.constant fit.2))
      (back_same s _ [] [] (gap_of g.first g.second w) g refl same (back_ok s (gap_of g.first g.second w))))))

  back_entry : (e : ℕ × List Gap) → EntryFits e → Back s (entry_at s) (entry_code e) e
  unfolding gaps_at
  back_entry e fit =
      let gs = e.1 in
      let rest = flat_map gap_code gs in
      back_then s (word_at s) _ (word_code e.0) (length gs ∷ rest) e.0 e (back_word s e.0)
      (back_then s (byte_at s) _ (length gs ∷ []) rest (length gs) e (back_byte s (length gs))
      (back_same s _ (rest ++ []) rest e e (append-nil rest) refl
      (back_then s (gaps_at (length gs) s) _ rest [] gs e
      (list_back s gap_at gap_code GapFits (record { first = 0; second = 0; sign = Below; constant = pos 0 }) back_gap gs fit.2) (back_ok s e))))

  back_cover : (entries : List (ℕ × List Gap)) → length entries ≤ 256 → AllByRecursion EntryFits entries
      → Rest s 0 (cover_code entries) → (q : ℕ) × (cover_at s ≡ Ok (entries, q))
  unfolding entries_at
  back_cover entries few fit start =
      let n = length entries in
      let rest = flat_map entry_code entries in
      let count = back_kept s (word_at s) (λ n. leb 0 n && leb n 256) BadCount (λ n. n) (word_code n) n (and_from _ _ (le-leb 0 n (omega arith)) (le-leb n 256 few)) (back_word s n) in
      let x = count 0 rest start in
      let y = list_back s entry_at entry_code EntryFits (0, []) back_entry entries fit x.0 [] (subst (λ (l : List ℕ). Rest s x.0 l) (sym (append-nil rest)) x.2) in
      let end = eq-eqb y.0 (length s) (ended s y.0 y.2) in
      (y.0, rw (x.1, y.1, end) refl)

pub cover_read : CoverRead
cover_read entries few fit short =
    let s = cover_code entries in
    let x = back_cover s entries few fit (refl, omega arith) in (
      (both (word_short (length entries) (omega arith)) (joined_short EntryFits entry_code 1023 entry_short entries fit)).bytes,
      sized_back s (cover_at s) entries x.0 short x.1,
    )
