-- A cell and the bytes that it was read from.
use Rattle.std.proofs.Common.{◌≡◌, ℕ, suc, ◌+◌, ◌*◌, ◌/◌, ◌%◌, ◌^◌, ◌<◌, Bool, true, false, cond, not, eqb, ltb, leb, List, [], ◌∷◌, ◌++◌, length, get_or, take, Some, None, Ok, Option, sym, refl, ap, ◌∙◌, subst, arith, lit≤}
use lib.Bits.{bit_and}
use Rattle.std.proofs.lemmas.Bool.Decides.{nat_tests}
use Rattle.std.proofs.lemmas.Nat.{and_mask, mod-pow-add, shr-shr}
use Rattle.std.proofs.lemmas.List.{take_all}
use Rattle.std.proofs.lemmas.Bool.{leb-true, ltb-true, eqb-true, ne_eqb, and_parts}
use Rattle.std.specs.List.{flat_map}
use Rattle.wire.specs.declared.cell.Letter.{Letter}
use Rattle.wire.specs.declared.cell.Letter.TheVariants.{Barrier, Display, Read, Write, Sensor}
use Rattle.wire.specs.declared.cell.Event.{Event}
use Rattle.wire.specs.declared.cell.End.{End}
use Rattle.wire.specs.declared.cell.Ends.{Ends}
use Rattle.wire.specs.declared.cell.Cell.{Cell}
use Rattle.wire.specs.Reading.{byte_at, word_at}
use Rattle.wire.specs.CellFormat.{bit, letter_of, or_refuse, letter_at, no_event, event_at, events_at, exits_at, flags_ok, flags_at, end_at, no_ends, ends_at, clocks_at, dim_of, dim_few, map_ok, map_at, cell_of, cell_at}
use Rattle.wire_law.specs.Codes.{word_code, letter_code, event_code, exits_code, end_bits, end_code, clock_bits, ends_code, standing, clocks_bits, map_bits, cell_code}
use Rattle.wire_law.specs.Laws.{Bytes}
use Rattle.wire_law.proofs.Spelling.{Spells, join, through, landed, passed, set_row, byte_spells, word_spells}

-- one letter of the row
pick : {P : Type 0} (b n : ℕ) (x : Letter) (rest : Option Letter) (l : Letter) → cond (eqb b n) (Some x) rest ≡ Some l
    → (b ≡ n → x ≡ l → P) → (rest ≡ Some l → P) → P
pick {P} b n x rest l e k m =
    let go : (t : Bool) → (t ≡ true → b ≡ n) → cond t (Some x) rest ≡ Some l → P
    = λ t. elim t as (λ u. (u ≡ true → b ≡ n) → cond u (Some x) rest ≡ Some l → P)
    [ true ↦ λ g f. k (g refl) (cc) | false ↦ λ g f. m f ] in
    go (eqb b n) (eqb-true b n) e

letter_is : (b : ℕ) (l : Letter) → letter_of b ≡ Some l → b ≡ letter_code l
letter_is b l e =
    let here : (n : ℕ) (x : Letter) → letter_code x ≡ n → b ≡ n → x ≡ l → b ≡ letter_code l = λ n x c f g. f ∙ (sym c ∙ ap letter_code g) in
    pick b 66 Barrier _ l e (here 66 Barrier refl) (λ e.
    pick b 68 Display _ l e (here 68 Display refl) (λ e.
    pick b 82 Read _ l e (here 82 Read refl) (λ e.
    pick b 87 Write _ l e (here 87 Write refl) (λ e.
    pick b 83 Sensor _ l e (here 83 Sensor refl) (λ e. let n : ◌≡◌ {A = ℕ} 0 1 = cc in absurd (omega arith))))))

else_ok : {P : Type 0} (o : Option Letter) (p r : ℕ) (l : Letter) (q : ℕ) → or_refuse o p r ≡ Ok (l, q) → (o ≡ Some l → r ≡ q → P) → P
else_ok {P} (Some x) p r l q e k = landed (λ (y : Letter) (t : ℕ). (Some x ≡ Some y → r ≡ t → P) → P) x l r q e (λ h. h refl refl) k
else_ok None p r l q e k = let n : ◌≡◌ {A = ℕ} 0 1 = cc in absurd (omega arith)

flags_are : (f : ℕ) → flags_ok f ≡ true → (cond (bit f 0) (cond (bit f 1) 3 1) 0 + 4 * cond (bit f 2) (cond (bit f 3) 3 1) 0 ≡ f) × (f ≡ 0 → ⊥)
unfolding flags_ok bit
flags_are f h = (grind (arith, nat_tests), grind (arith, nat_tests))

standing_is : (m k : ℕ) → standing (bit m k) ≡ m / 2 ^ k % 2
unfolding bit
standing_is m k =
    let go : (n : ℕ) → n < 2 → standing (eqb n 1) ≡ n = λ n lt. grind (arith, nat_tests) in
    go (m / 2 ^ k % 2) (omega arith)

clocks_are : (m : ℕ) (xs : List Ends) (j : ℕ) → ((i : ℕ) → i < length xs → not (eqb (clock_bits (get_or xs i no_ends)) 0) ≡ bit m (i + j))
    → clocks_bits xs ≡ m / 2 ^ j % 2 ^ length xs
clocks_are m [] j h = omega arith
clocks_are m (x ∷ xs) j h =
    let none : 0 + j ≡ j = omega arith in
    let first : standing (not (eqb (clock_bits x) 0)) ≡ m / 2 ^ j % 2
    = ap standing (h 0 (omega arith)) ∙ (standing_is m (0 + j) ∙ ap (λ (n : ℕ). m / 2 ^ n % 2) none) in
    let rest : clocks_bits xs ≡ m / 2 ^ (j + 1) % 2 ^ length xs
    = clocks_are m xs (j + 1) (λ i lt. let e : suc i + j ≡ i + (j + 1) = omega arith in h (suc i) (omega arith) ∙ ap (bit m) e) in
    let more : length xs + 1 ≡ suc (length xs) = omega arith in
    let split : m / 2 ^ j % 2 ^ suc (length xs) ≡ m / 2 ^ (j + 1) % 2 ^ length xs * 2 + m / 2 ^ j % 2
    = subst (λ (n : ℕ). m / 2 ^ j % 2 ^ n ≡ m / 2 ^ (j + 1) % 2 ^ length xs * 2 + m / 2 ^ j % 2) more
    (mod-pow-add (m / 2 ^ j) (length xs) 1 ∙ ap (λ (n : ℕ). n % 2 ^ length xs * 2 + m / 2 ^ j % 2) (shr-shr m j 1)) in
    omega arith

map_is : (m x : ℕ) (events : List Event) (ends : List Ends) → map_ok m ≡ true → not (eqb x 0) ≡ bit m 5 → clocks_bits ends ≡ m / 64 % 64
    → m ≡ map_bits (cell_of m events x ends)
unfolding map_ok
map_is m x events ends ok e f =
    let parts = and_parts (ltb m 4096) (eqb (bit_and m 15 + 1) (2 ^ dim_of m)) ok in
    let small = ltb-true m 4096 parts.0 in
    let low = eqb-true (bit_and m 15 + 1) (2 ^ dim_of m) parts.1 in
    let mask = and_mask m 4 in
    let half : m / 16 / 2 ≡ m / 32 = shr-shr m 4 1 in
    let quarter : m / 32 / 2 ≡ m / 64 = shr-shr m 5 1 in
    let top : m / 64 % 64 ≡ m / 64 = omega arith in
    let final = standing_is m 4 in
    let exit = ap standing e ∙ standing_is m 5 in
    omega arith

module _ (s : List ℕ) (small : Bytes s) where
  letter_spells : (p : ℕ) (l : Letter) (q : ℕ) → letter_at s p ≡ Ok (l, q) → Spells s p q (letter_code l ∷ [])
  letter_spells p l q e =
      through (byte_at s p) _ l q e (λ b r a f.
      else_ok (letter_of b) p r l q f (λ g h.
      subst (λ (n : ℕ). Spells s p n (letter_code l ∷ [])) h
      (subst (λ (n : ℕ). Spells s p r (n ∷ [])) (letter_is b l g) (byte_spells s small p b r a))))

  pub event_spells : (p : ℕ) (e : Event) (q : ℕ) → event_at s p ≡ Ok (e, q) → Spells s p q (event_code e)
  event_spells p e q h =
      through (letter_at s p) _ e q h (λ l t a h.
      through (word_at s t) _ e q h (λ m u b h.
      through (word_at s u) _ e q h (λ n v c h.
      landed (λ (x : Event) (y : ℕ). Spells s p y (event_code x)) _ e v q h
      (join s p t v (letter_code l ∷ []) (word_code m ++ word_code n) (letter_spells p l t a)
      (join s t u v (word_code m) (word_code n) (word_spells s small t m u b) (word_spells s small u n v c))))))

  pub exits_spells : (has : Bool) (p x q : ℕ) → exits_at has s p ≡ Ok (x, q) → Spells s p q (exits_code x) × (not (eqb x 0) ≡ has)
  exits_spells false p x q h = landed (λ (y t : ℕ). Spells s p t (exits_code y) × (not (eqb y 0) ≡ false)) 0 x p q h (refl, refl)
  exits_spells true p x q h =
      through (byte_at s p) _ x q h (λ v r a h.
      passed (λ (y t : ℕ). Spells s p t (exits_code y) × (not (eqb y 0) ≡ true)) _ _ _ v x r q h (λ ok.
      let l = leb-true 1 v (and_parts (leb 1 v) (leb v 63) ok).0 in
      let z : eqb v 0 ≡ false = ne_eqb v 0 (λ z. omega arith) in
      subst (λ (b : Bool). Spells s p r (cond b [] (v ∷ [])) × (not b ≡ true)) (sym z) (byte_spells s small p v r a, refl)))

  end_spells : (has o : Bool) (p : ℕ) (e : Option End) (q : ℕ) → end_at has o s p ≡ Ok (e, q)
      → Spells s p q (end_code e) × (end_bits e ≡ cond has (cond o 3 1) 0)
  end_spells false o p e q h = landed (λ (x : Option End) (t : ℕ). Spells s p t (end_code x) × (end_bits x ≡ 0)) None e p q h (refl, refl)
  end_spells true o p e q h =
      through (word_at s p) _ e q h (λ u r a h.
      passed (λ (x : Option End) (t : ℕ). Spells s p t (end_code x) × (end_bits x ≡ cond o 3 1)) _ _ _ _ e r q h
      (λ ok. (word_spells s small p u r a, refl)))

  flags_spells : (p f q : ℕ) → flags_at s p ≡ Ok (f, q) → Spells s p q (f ∷ []) × (flags_ok f ≡ true)
  flags_spells p f q h =
      through (byte_at s p) _ f q h (λ v r a h.
      passed (λ (x t : ℕ). Spells s p t (x ∷ []) × (flags_ok x ≡ true)) _ _ _ v f r q h (λ ok. (byte_spells s small p v r a, ok)))

  pub ends_spells : (has : Bool) (p : ℕ) (e : Ends) (q : ℕ) → ends_at has s p ≡ Ok (e, q)
      → Spells s p q (ends_code e) × (not (eqb (clock_bits e) 0) ≡ has)
  ends_spells false p e q h =
      landed (λ (x : Ends) (t : ℕ). Spells s p t (ends_code x) × (not (eqb (clock_bits x) 0) ≡ false)) no_ends e p q h (refl, refl)
  ends_spells true p e q h =
      through (flags_at s p) _ e q h (λ f r a h.
      through (end_at (bit f 0) (bit f 1) s r) _ e q h (λ l t b h.
      through (end_at (bit f 2) (bit f 3) s t) _ e q h (λ g u c h.
      landed (λ (x : Ends) (y : ℕ). Spells s p y (ends_code x) × (not (eqb (clock_bits x) 0) ≡ true)) _ e u q h
      (let a' = flags_spells p f r a in
      let b' = end_spells (bit f 0) (bit f 1) r l t b in
      let c' = end_spells (bit f 2) (bit f 3) t g u c in
      let ok = flags_are f a'.1 in
      let is : f ≡ end_bits l + 4 * end_bits g = omega (arith, ok.0, b'.1, c'.1) in
      let z : eqb f 0 ≡ false = ne_eqb f 0 ok.1 in
      let bs = end_code l ++ end_code g in
      subst (λ (n : ℕ). Spells s p u (cond (eqb n 0) [] (n ∷ bs)) × (not (eqb n 0) ≡ true)) is
      (subst (λ (b : Bool). Spells s p u (cond b [] (f ∷ bs)) × (not b ≡ true)) (sym z)
      (join s p r u (f ∷ []) bs a'.0 (join s r t u (end_code l) (end_code g) b'.0 c'.0), refl))))))

  map_spells : (p m q : ℕ) → map_at s p ≡ Ok (m, q) → Spells s p q (word_code m) × (map_ok m ≡ true)
  map_spells p m q h =
      through (word_at s p) _ m q h (λ v r a h.
      passed (λ (x t : ℕ). Spells s p t (word_code x) × (map_ok x ≡ true)) _ _ _ v m r q h (λ ok. (word_spells s small p v r a, ok)))

  pub cell_spells : (p : ℕ) (c : Cell) (q : ℕ) → cell_at s p ≡ Ok (c, q) → Spells s p q (cell_code c)
  unfolding events_at clocks_at
  cell_spells p c q h =
      through (map_at s p) _ c q h (λ m r a h.
      through (events_at (dim_of m) s r) _ c q h (λ events t b h.
      through (exits_at (bit m 5) s t) _ c q h (λ x u d h.
      through (clocks_at m s u) _ c q h (λ ends v e h.
      landed (λ (y : Cell) (w : ℕ). Spells s p w (cell_code y)) _ c v q h
      (let a' = map_spells p m r a in
      let b' = set_row s (λ _. event_at) event_code (λ _ _. Unit {0}) (λ k q r y f. (event_spells q y r f, tt)) no_event 4 (dim_of m) (dim_few m) r events t b in
      let d' = exits_spells (bit m 5) t x u d in
      let e' = set_row s (λ k. ends_at (bit m (k + 6))) ends_code (λ k y. not (eqb (clock_bits y) 0) ≡ bit m (k + 6))
      (λ k q r y f. ends_spells (bit m (k + 6)) q y r f) no_ends 6 6 (lit≤ tt) u ends v e in
      let clocks : clocks_bits ends ≡ m / 64 % 64
      = clocks_are m ends 6 (λ i lt. e'.2 i (omega (arith, e'.1))) ∙ ap (λ (n : ℕ). m / 64 % 2 ^ n) e'.1 in
      let is = map_is m x events ends a'.1 d'.1 clocks in
      let whole : take 6 ends ≡ ends = take_all 6 ends (omega (arith, e'.1)) in
      join s p r v (word_code (map_bits (cell_of m events x ends))) _ (subst (λ (n : ℕ). Spells s p r (word_code n)) is a'.0)
      (join s r t v _ _ b'.0
      (join s t u v _ _ d'.0 (subst (λ (l : List Ends). Spells s u v (flat_map ends_code l)) whole e'.0))))))))
