-- A cell read back from its bytes.
use Rattle.std.proofs.Common.{◌≡◌, ℕ, zero, suc, ◌+◌, ◌-◌, ◌*◌, ◌/◌, ◌%◌, ◌^◌, ◌<◌, ◌≤◌, Bool, true, false, cond, not, ◌&&◌, ◌||◌, eqb, leb, List, [], ◌∷◌, ◌++◌, length, get_or, take, set, replicate, Some, None, Ok, Option, sym, refl, ap, ◌∙◌, subst, append_assoc, append-nil, arith, lit≤, pow_mono}
use native.Mathlib.Nat.{pow-succ'}
use lib.Bits.{bit_and}
use lib.Count.{ones, ones-ones}
use Rattle.std.proofs.lemmas.Bool.Decides.{nat_tests}
use Rattle.std.proofs.lemmas.Nat.{pow_pos, shr-shr, and_mask}
use Rattle.std.proofs.ByRecursion.{All-get_or}
use Rattle.std.proofs.Math.Seq.{take-suc}
use Rattle.std.proofs.lemmas.List.{take_all, take-append-drop, set_at, length-take-le}
use Rattle.std.proofs.lemmas.Bool.{le-leb, ne_eqb, eq-eqb, lt-ltb, and_from}
use Rattle.std.specs.List.{flat_map}
use Rattle.slip.specs.declared.Refusal.TheVariants.{OutOfRange, BadBits}
use Rattle.wire.specs.declared.cell.Letter.{Letter}
use Rattle.wire.specs.declared.cell.Letter.TheVariants.{Barrier, Display, Read, Write, Sensor}
use Rattle.wire.specs.declared.cell.Event.{Event}
use Rattle.wire.specs.declared.cell.End.{End}
use Rattle.wire.specs.declared.cell.Ends.{Ends}
use Rattle.wire.specs.declared.cell.Cell.{Cell}
use Rattle.wire.specs.Reading.{Parsed, ◌⨟◌, byte_at, word_at, many}
use Rattle.wire.specs.CellFormat.{bit, letter_of, or_refuse, letter_at, no_event, event_at, events_at, exits_at, flags_ok, flags_at, end_at, no_ends, ends_at, clocks_at, dim_of, map_ok, map_at, cell_of, cell_at}
use Rattle.wire.proofs.Cells.{cell_is}
use Rattle.wire_law.specs.Codes.{word_code, letter_code, event_code, exits_code, end_bits, end_code, clock_bits, ends_code, standing, clocks_bits, map_bits, cell_code}
use Rattle.wire_law.specs.Laws.{EndFits, EndsFit, CellFits}
use Rattle.wire_law.proofs.Back.{Back, back_ok, back_then, back_kept, back_same, many_back, joined_more_at, back_byte, back_word}

letter_of_is : (l : Letter) → letter_of (letter_code l) ≡ Some l
letter_of_is Barrier = refl
letter_of_is Display = refl
letter_of_is Read = refl
letter_of_is Write = refl
letter_of_is Sensor = refl

-- the bits of two ends, put together and taken apart
flags_of : (a b c d : Bool) (f : ℕ) → cond a (cond b 3 1) 0 + 4 * cond c (cond d 3 1) 0 ≡ f
    → (bit f 0 ≡ a) × (bit f 1 ≡ (a && b)) × (bit f 2 ≡ c) × (bit f 3 ≡ (c && d)) × ((a || c) ≡ true → flags_ok f ≡ true)
unfolding flags_ok bit
flags_of a b c d f e = (grind (arith, nat_tests), grind (arith, nat_tests), grind (arith, nat_tests), grind (arith, nat_tests), λ h. grind (arith, nat_tests))

abbrev there : Option End → Bool
there None = false
there (Some e) = true

abbrev opened : Option End → Bool
opened None = false
opened (Some e) = e.«open»

bits_are : (l h : Option End) → cond (there l) (cond (opened l) 3 1) 0 + 4 * cond (there h) (cond (opened h) 3 1) 0 ≡ end_bits l + 4 * end_bits h
bits_are None None = refl
bits_are None (Some h) = refl
bits_are (Some l) None = refl
bits_are (Some l) (Some h) = refl

bits_some : (e : End) → 1 ≤ end_bits (Some e)
bits_some e = elim e.«open» as (λ b. 1 ≤ cond b 3 1) [ true ↦ lit≤ tt | false ↦ lit≤ tt ]

standing_le : (b : Bool) → standing b ≤ 1
standing_le true = lit≤ tt
standing_le false = lit≤ tt

clocks_below : (xs : List Ends) → clocks_bits xs < 2 ^ length xs
clocks_below [] = lit≤ tt
clocks_below (x ∷ xs) =
    omega (arith, pow-succ' 2 (length xs), clocks_below xs, standing_le (not (eqb (clock_bits x) 0)))

clock_bit : (xs : List Ends) (k : ℕ) → k < length xs → clocks_bits xs / 2 ^ k % 2 ≡ standing (not (eqb (clock_bits (get_or xs k no_ends)) 0))
clock_bit [] k lt = absurd (omega arith)
clock_bit (x ∷ xs) zero lt = omega (arith, standing_le (not (eqb (clock_bits x) 0)))
clock_bit (x ∷ xs) (suc k) lt =
    let n = standing (not (eqb (clock_bits x) 0)) + 2 * clocks_bits xs in
    let e : 1 + k ≡ suc k = omega arith in
    let half : n / 2 ≡ clocks_bits xs = omega (arith, standing_le (not (eqb (clock_bits x) 0))) in
    sym (ap (λ (j : ℕ). n / 2 ^ j % 2) e) ∙ (sym (ap (λ (j : ℕ). j % 2) (shr-shr n 1 k)) ∙ (ap (λ (j : ℕ). j / 2 ^ k % 2) half ∙ clock_bit xs k (omega arith)))

bit_is : (n k : ℕ) (b : Bool) → n / 2 ^ k % 2 ≡ standing b → bit n k ≡ b
unfolding bit
bit_is n k true e = ap (λ (x : ℕ). eqb x 1) e
bit_is n k false e = ap (λ (x : ℕ). eqb x 1) e

-- the map of a cell has the cell's bits
module _ (c : Cell) (fit : CellFits c) where
  clocks_few : clocks_bits c.ends < 64
  clocks_few = subst (λ (n : ℕ). clocks_bits c.ends < 2 ^ n) fit.clocks (clocks_below c.ends)

  low_bits : (1 ≤ 2 ^ c.dim) × (2 ^ c.dim ≤ 16)
  low_bits = (pow_pos c.dim, pow_mono c.few)

  masked : bit_and (map_bits c) 15 ≡ 2 ^ c.dim - 1
  masked = and_mask (map_bits c) 4 ∙ omega (arith, low_bits.0, low_bits.1)

  dim_back : dim_of (map_bits c) ≡ c.dim
  unfolding dim_of
  dim_back = ap ones masked ∙ ones-ones c.dim

  pub map_below : map_bits c < 4096
  map_below = omega (arith, low_bits.0, low_bits.1, clocks_few, standing_le c.last, standing_le (not (eqb c.exits 0)))

  map_ok_is : map_ok (map_bits c) ≡ true
  unfolding map_ok
  map_ok_is =
      let q : 2 ^ c.dim - 1 + 1 ≡ 2 ^ c.dim = omega (arith, low_bits.0) in
      and_from _ _
      (lt-ltb (map_bits c) 4096 map_below)
      (eq-eqb _ _ (ap (λ (n : ℕ). n + 1) masked ∙ (q ∙ ap (λ (n : ℕ). 2 ^ n) (sym dim_back))))

  last_back : bit (map_bits c) 4 ≡ c.last
  last_back = bit_is (map_bits c) 4 c.last (omega (arith, low_bits.0, low_bits.1, standing_le c.last))

  exit_back : bit (map_bits c) 5 ≡ not (eqb c.exits 0)
  exit_back = bit_is (map_bits c) 5 (not (eqb c.exits 0)) (omega (arith, low_bits.0, low_bits.1, standing_le c.last, standing_le (not (eqb c.exits 0))))

  clock_back : (k : ℕ) → k < length c.ends → bit (map_bits c) (k + 6) ≡ not (eqb (clock_bits (get_or c.ends k no_ends)) 0)
  clock_back k lt =
      let e : 6 + k ≡ k + 6 = omega arith in
      let top : map_bits c / 64 ≡ clocks_bits c.ends
      = omega (arith, low_bits.0, low_bits.1, standing_le c.last, standing_le (not (eqb c.exits 0))) in
      bit_is (map_bits c) (k + 6) _
      (sym (ap (λ (j : ℕ). map_bits c / 2 ^ j % 2) e) ∙ (sym (ap (λ (j : ℕ). j % 2) (shr-shr (map_bits c) 6 k)) ∙ (ap (λ (j : ℕ). j / 2 ^ k % 2) top ∙ clock_bit c.ends k lt)))

module _ (s : List ℕ) where
  back_letter : (l : Letter) → Back s (letter_at s) (letter_code l ∷ []) l
  back_letter l p t h =
      let x = back_byte s (letter_code l) p t h in
      (x.0, ap (λ (z : Parsed ℕ). z ⨟ λ b q. or_refuse (letter_of b) p q) x.1 ∙ ap (λ (o : Option Letter). or_refuse o p x.0) (letter_of_is l), x.2)

  back_event : (e : Event) → Back s (event_at s) (event_code e) e
  back_event e =
      back_then s (letter_at s) _ (letter_code e.letter ∷ []) (word_code e.lower ++ (word_code e.upper ++ [])) e.letter e (back_letter e.letter)
      (back_then s (word_at s) _ (word_code e.lower) (word_code e.upper ++ []) e.lower e (back_word s e.lower)
      (back_then s (word_at s) _ (word_code e.upper) [] e.upper e (back_word s e.upper) (back_ok s e)))

  back_exits : (x : ℕ) → x ≤ 63 → Back s (exits_at (not (eqb x 0)) s) (exits_code x) x
  back_exits zero h = back_ok s 0
  back_exits (suc n) h =
      subst (λ (b : Bool). Back s (exits_at (not b) s) (cond b [] (suc n ∷ [])) (suc n)) (sym (ne_eqb (suc n) 0 (λ z. omega arith)))
      (back_kept s (byte_at s) (λ e. leb 1 e && leb e 63) OutOfRange (λ e. e) (suc n ∷ []) (suc n) (grind (arith, nat_tests)) (back_byte s (suc n)))

  back_end : (e : Option End) → EndFits e → Back s (end_at (there e) (there e && opened e) s) (end_code e) e
  back_end None h = back_ok s None
  back_end (Some e) h =
      back_kept s (word_at s) (λ u. leb u 9999) OutOfRange (λ u. Some (record { units = u; «open» = e.«open» })) (word_code e.units) e.units
      (le-leb e.units 9999 h) (back_word s e.units)

  -- a clock's range, where some end is there
  some_ends : (e : Ends) → EndFits e.low → EndFits e.high → (there e.low || there e.high) ≡ true
      → Back s (ends_at true s) (clock_bits e ∷ (end_code e.low ++ end_code e.high)) e
  some_ends e l h some =
      let f = clock_bits e in
      let is = flags_of (there e.low) (opened e.low) (there e.high) (opened e.high) f (bits_are e.low e.high) in
      back_then s (flags_at s) _ (f ∷ []) (end_code e.low ++ end_code e.high) f e
      (back_kept s (byte_at s) flags_ok BadBits (λ x. x) (f ∷ []) f (is.4 some) (back_byte s f))
      (back_then s (end_at (bit f 0) (bit f 1) s) _ (end_code e.low) (end_code e.high) e.low e
      (subst (λ (b : Bool). Back s (end_at (bit f 0) b s) (end_code e.low) e.low) (sym is.1)
      (subst (λ (a : Bool). Back s (end_at a (there e.low && opened e.low) s) (end_code e.low) e.low) (sym is.0) (back_end e.low l)))
      (back_same s _ (end_code e.high ++ []) (end_code e.high) e e (append-nil (end_code e.high)) refl
      (back_then s (end_at (bit f 2) (bit f 3) s) _ (end_code e.high) [] e.high e
      (subst (λ (b : Bool). Back s (end_at (bit f 2) b s) (end_code e.high) e.high) (sym is.3)
      (subst (λ (a : Bool). Back s (end_at a (there e.high && opened e.high) s) (end_code e.high) e.high) (sym is.2) (back_end e.high h)))
      (back_ok s e))))

  there_ends : (e : Ends) → EndFits e.low → EndFits e.high → (there e.low || there e.high) ≡ true → (clock_bits e ≡ 0 → ⊥)
      → Back s (ends_at (not (eqb (clock_bits e) 0)) s) (ends_code e) e
  there_ends e l h some ne =
      subst (λ (b : Bool). Back s (ends_at (not b) s) (cond b [] (clock_bits e ∷ (end_code e.low ++ end_code e.high))) e) (sym (ne_eqb (clock_bits e) 0 ne))
      (some_ends e l h some)

  back_ends_of : (l h : Option End) → EndFits l → EndFits h
      → Back s (ends_at (not (eqb (clock_bits (record { low = l; high = h })) 0)) s) (ends_code (record { low = l; high = h })) (record { low = l; high = h })
  back_ends_of None None a b = back_ok s no_ends
  back_ends_of None (Some h) a b = there_ends (record { low = None; high = Some h }) a b refl (λ z. omega (arith, bits_some h))
  back_ends_of (Some l) None a b = there_ends (record { low = Some l; high = None }) a b refl (λ z. omega (arith, bits_some l))
  back_ends_of (Some l) (Some h) a b = there_ends (record { low = Some l; high = Some h }) a b refl (λ z. omega (arith, bits_some l))

  pub back_ends : (e : Ends) → EndsFit e → Back s (ends_at (not (eqb (clock_bits e) 0)) s) (ends_code e) e
  back_ends e fit = back_ends_of e.low e.high fit.0 fit.1

  -- readings in a row into an array
  row_back : {A : Type 0} (d : ℕ → List ℕ → ℕ → Parsed A) (code : A → List ℕ) (blank : A) (xs : List A) (n : ℕ) → length xs ≡ n
      → (m : ℕ) → m ≤ n
      → ((k : ℕ) → k < m → Back s (d k s) (code (get_or xs k blank)) (get_or xs k blank))
      → Back s (many set d (replicate n blank) m s) (flat_map code (take m xs)) (take m xs ++ replicate (n - m) blank)
  row_back d code blank xs n long m le each =
      let z : n - 0 ≡ n = omega arith in
      let whole = ap (λ (j : ℕ). replicate j blank) z in
      subst (λ (es : List _). Back s (many set d es m s) (flat_map code (take m xs)) (take m xs ++ replicate (n - m) blank)) whole
      (many_back s set d code (λ k. get_or xs k blank) (λ k. flat_map code (take k xs)) (λ k. take k xs ++ replicate (n - k) blank) refl m each
      (λ k lt. joined_more_at code xs k blank (omega arith))
      (λ k lt.
      let rest = replicate (n - suc k) blank in
      let left : n - k ≡ suc (n - suc k) = omega arith in
      ap (λ (j : ℕ). set (take k xs ++ replicate j blank) k (get_or xs k blank)) left
      ∙ (set_at (take k xs) blank rest (get_or xs k blank) k (length-take-le k xs (omega arith))
      ∙ (sym (append_assoc (take k xs) (get_or xs k blank ∷ []) rest) ∙ ap (λ (l : List _). l ++ rest) (sym (take-suc xs k blank (omega arith)))))))

  back_map : (c : Cell) → CellFits c → Back s (map_at s) (word_code (map_bits c)) (map_bits c)
  back_map c fit = back_kept s (word_at s) map_ok BadBits (λ m. m) (word_code (map_bits c)) (map_bits c) (map_ok_is c fit) (back_word s (map_bits c))

  back_events : (c : Cell) → CellFits c → Back s (events_at c.dim s) (flat_map event_code (take c.dim c.events)) c.events
  unfolding events_at
  back_events c fit =
      let es = c.events in
      back_same s _ _ _ _ _ refl (ap (λ (l : List Event). take c.dim es ++ l) (sym fit.blank) ∙ take-append-drop c.dim es)
      (row_back (λ _. event_at) event_code no_event es 4 fit.slots c.dim c.few (λ k lt. back_event (get_or es k no_event)))

  back_clocks : (c : Cell) → CellFits c → Back s (clocks_at (map_bits c) s) (flat_map ends_code c.ends) c.ends
  unfolding clocks_at
  back_clocks c fit =
      let es = c.ends in
      let whole = take_all 6 es (omega (arith, fit.clocks)) in
      back_same s _ _ _ _ _ (ap (flat_map ends_code) whole) (append-nil (take 6 es) ∙ whole)
      (row_back (λ k. ends_at (bit (map_bits c) (k + 6))) ends_code no_ends es 6 fit.clocks 6 (lit≤ tt) (λ k lt.
      let in' : k < length es = omega (arith, fit.clocks) in
      subst (λ (b : Bool). Back s (ends_at b s) (ends_code (get_or es k no_ends)) (get_or es k no_ends)) (sym (clock_back c fit k in'))
      (back_ends (get_or es k no_ends) (All-get_or EndsFit es k no_ends in' fit.ranges))))

  pub back_cell : (c : Cell) → CellFits c → Back s (cell_at s) (cell_code c) c
  back_cell c fit =
      let m = map_bits c in
      let events = flat_map event_code (take c.dim c.events) in
      let exit = exits_code c.exits in
      let clocks = flat_map ends_code c.ends in
      let same = cell_is m c.dim c.exits c.last c.events c.ends c.few (sym (dim_back c fit)) (sym (last_back c fit)) in
      back_then s (map_at s) _ (word_code m) (events ++ (exit ++ clocks)) m c (back_map c fit)
      (back_then s (events_at (dim_of m) s) _ events (exit ++ clocks) c.events c
      (subst (λ (n : ℕ). Back s (events_at n s) events c.events) (sym (dim_back c fit)) (back_events c fit))
      (back_then s (exits_at (bit m 5) s) _ exit clocks c.exits c
      (subst (λ (b : Bool). Back s (exits_at b s) exit c.exits) (sym (exit_back c fit)) (back_exits c.exits fit.exit))
      (back_same s _ (clocks ++ []) clocks c c (append-nil clocks) refl
      (back_then s (clocks_at m s) _ clocks [] c.ends c (back_clocks c fit)
      (subst (λ (x : Cell). Back s (λ p. Ok (cell_of m c.events c.exits c.ends, p)) [] x) (sym same)
      (back_ok s (cell_of m c.events c.exits c.ends)))))))
