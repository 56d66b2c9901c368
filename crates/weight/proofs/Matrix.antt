-- The closing of a list of 49 weights: it is the closed form, or a way from a place to itself sums below neutral.
use Rattle.std.proofs.Common.{◌≡◌, ℕ, zero, suc, ◌+◌, ◌*◌, ◌/◌, ◌%◌, ◌^◌, ◌<◌, ◌≤◌, Bool, true, false, cond, ◌&&◌, List, length, get_or, Some, None, Decides, MatchBool, sym, refl, ap, ◌∙◌, ⊎_elim, mul_left_comm, arith}
use Rattle.std.proofs.lemmas.List.FromFn.{fill_by_all, get_or-map-range_with_len, length-map-range_with_len}
use Rattle.std.proofs.lemmas.List.{get_or-replicate}
use Rattle.std.proofs.lemmas.Bool.{and_cases, both_ways, cases_Bool, cases_lt, cond-false, cond-true}
use Rattle.std.proofs.lemmas.Bool.Decides.{Decides-below_and}
use Rattle.std.specs.List.{list_all, range_with_len}
use Rattle.weight.specs.Weights.{Laws, Closed, Sound, Way, step, join, ClosedForm, Falling}
use Rattle.weight.specs.Closing.{cell, passed, one_pass, passes, sound_below, closing, empty_form, Within}
use Rattle.weight.proofs.Chains.{list_all_last}
use Rattle.weight.proofs.Passes.{Sofar, lesser_is, lesser_first, sofar_start, sofar_pass, closed_form_is, falling}

module _ {V : Type 0} (leb : V → V → Bool) (plus : V → V → V) (blank : V) where
  pub one_pass_cell : (k : ℕ) (xs : List V) (i j : ℕ) → i < 7 → j < 7 → cell blank (one_pass leb plus blank k xs) i j ≡ passed leb plus (cell blank xs) k i j
  unfolding one_pass
  one_pass_cell k xs i j hi hj =
      let row : (7 * i + j) / 7 ≡ i = omega arith in
      let column : (7 * i + j) % 7 ≡ j = omega arith in
      let f : ℕ → V = λ p. passed leb plus (cell blank xs) k (p / 7) (p % 7) in
      get_or-map-range_with_len f 0 49 (7 * i + j) (7 * i + j) blank (omega arith) (omega arith) ∙ rw (row, column) refl

  pub one_pass_from : (k : ℕ) (xs ys : List V) → length ys ≡ 49 → ((i j : ℕ) → i < 7 → j < 7 → cell blank ys i j ≡ passed leb plus (cell blank xs) k i j) → ys ≡ one_pass leb plus blank k xs
  unfolding one_pass
  one_pass_from k xs ys long new =
      fill_by_all (λ p. passed leb plus (cell blank xs) k (p / 7) (p % 7)) ys 49 blank long
      (λ p h. let whole : 7 * (p / 7) + p % 7 ≡ p = omega arith in sym (ap (λ q. get_or ys q blank) whole) ∙ new (p / 7) (p % 7) (omega arith) (omega arith))

  length_one_pass : (k : ℕ) (xs : List V) → length (one_pass leb plus blank k xs) ≡ 49
  unfolding one_pass
  length_one_pass k xs = length-map-range_with_len (λ p. passed leb plus (cell blank xs) k (p / 7) (p % 7)) 0 49

pub empty_cell : {V : Type 0} (blank hopeless : V) (i j : ℕ) → i < 7 → j < 7 → cell blank (empty_form hopeless) i j ≡ hopeless
unfolding empty_form
empty_cell blank hopeless i j hi hj = get_or-replicate 49 (7 * i + j) hopeless blank (omega arith)

module _ {V : Type 0} (leb : V → V → Bool) (neutral : V) (d : ℕ → ℕ → V) where
  pub sound_decides : Decides (sound_below leb neutral d 7) (Sound leb neutral d)
  sound_decides = Decides-below_and (λ k. leb neutral (d k k)) (λ k. leb neutral (d k k) ≡ true) (sound_below leb neutral d) (λ k. (λ e. e, λ e. e)) refl (λ n. refl) 7

  pub sound_list : (n : ℕ) → list_all (λ k. leb neutral (d k k)) (range_with_len 0 n) ≡ sound_below leb neutral d n
  sound_list zero = refl
  sound_list (suc n) = list_all_last (λ k. leb neutral (d k k)) n ∙ ap (λ (b : Bool). leb neutral (d n n) && b) (sound_list n)

  pub unsound_place : (n : ℕ) → sound_below leb neutral d n ≡ false → (c : ℕ) × (c < n) × (leb neutral (d c c) ≡ false)
  unsound_place zero e = absurd (both_ways _ e refl)
  unsound_place (suc n) e =
      ⊎_elim
      (λ here. (n, omega arith, here))
      (λ before. let r = unsound_place n before in (r.0, omega (arith, r.1), r.2))
      (and_cases (leb neutral (d n n)) (sound_below leb neutral d n) e)

module _ {V : Type 0} {leb : V → V → Bool} {plus : V → V → V} {neutral unbounded hopeless : V} (laws : Laws leb plus neutral unbounded hopeless) (blank : V) (xs : List V) where
  -- a pass raises no weight
  passes_lower : (n m i j : ℕ) → m ≤ n → i < 7 → j < 7 → leb (cell blank (passes leb plus blank n xs) i j) (cell blank (passes leb plus blank m xs) i j) ≡ true
  passes_lower zero m i j h hi hj = let e : m ≡ 0 = omega arith in rw e (laws.self _)
  passes_lower (suc n) m i j h hi hj =
      ⊎_elim
      (λ (less : m < suc n). rw (one_pass_cell leb plus blank n (passes leb plus blank n xs) i j hi hj) (laws.trans _ _ _ (lesser_first laws _ _) (passes_lower n m i j (omega arith) hi hj)))
      (λ (same : suc n ≤ m). let e : m ≡ suc n = omega arith in rw e (laws.self _))
      (cases_lt m (suc n))

  passes_ways : (k i j : ℕ) → k ≤ 7 → i < 7 → j < 7 → Way plus (cell blank xs) i j (cell blank (passes leb plus blank k xs) i j)
  passes_ways zero i j hk hi hj = step i j hi hj
  passes_ways (suc k) i j hk hi hj =
      let before : k ≤ 7 = omega arith in
      let here : k < 7 = omega arith in
      rw (one_pass_cell leb plus blank k (passes leb plus blank k xs) i j hi hj)
      (lesser_is leb (Way plus (cell blank xs) i j) _ _ (passes_ways k i j before hi hj)
      (join i k j _ _ here (passes_ways k i k before hi here) (passes_ways k k j before here hj)))

  -- the diagonal is sound at the end, so it was before each pass
  passes_sofar : Sound leb neutral (cell blank (passes leb plus blank 7 xs)) → (k : ℕ) → k ≤ 7 → Sofar leb plus (cell blank xs) (cell blank (passes leb plus blank k xs)) k
  passes_sofar sound zero hk = sofar_start laws (cell blank xs)
  passes_sofar sound (suc k) hk =
      let here : k < 7 = omega arith in
      let before : k ≤ 7 = omega arith in
      sofar_pass laws (cell blank xs) (cell blank (passes leb plus blank k xs)) (cell blank (passes leb plus blank (suc k) xs)) k here
      (laws.trans _ _ _ (sound k here) (passes_lower 7 k k k before here here))
      (passes_sofar sound k before)
      (one_pass_cell leb plus blank k (passes leb plus blank k xs))

  -- a place below neutral against itself stays so
  pub closing_none : (k c : ℕ) → k ≤ 7 → c < 7 → leb neutral (cell blank (passes leb plus blank k xs) c c) ≡ false → closing leb plus neutral blank xs ≡ None
  unfolding closing
  closing_none k c hk hc less =
      let end = cell blank (passes leb plus blank 7 xs) in
      ⊎_elim
      (λ t. absurd (both_ways _ less (laws.trans _ _ _ ((sound_decides leb neutral end).0 t c hc) (passes_lower 7 k c c hk hc hc))))
      (λ f. ap (λ (b : Bool). cond b (Some (passes leb plus blank 7 xs)) None) f)
      (cases_Bool (sound_below leb neutral end 7))

  -- what the test of the diagonal after the last pass tells
  pub closing_test : (ys : List V) (r : Bool) → ys ≡ passes leb plus blank 7 xs → r ≡ sound_below leb neutral (cell blank ys) 7 → closing leb plus neutral blank xs ≡ cond r (Some ys) None
  unfolding closing
  closing_test ys r is test = rw (test, is) refl

  closing_some : (ys : List V) → closing leb plus neutral blank xs ≡ Some ys → (ys ≡ passes leb plus blank 7 xs) × (sound_below leb neutral (cell blank (passes leb plus blank 7 xs)) 7 ≡ true)
  unfolding closing
  closing_some ys e =
      ⊎_elim
      (λ t. (let s = cond-true _ (Some (passes leb plus blank 7 xs)) None t in cc, t))
      (λ f. absurd (let s = cond-false _ (Some (passes leb plus blank 7 xs)) None f in let z : ◌≡◌ {A = ℕ} 0 1 = cc in omega arith))
      (cases_Bool (sound_below leb neutral (cell blank (passes leb plus blank 7 xs)) 7))

  pub closing_closed : (ys : List V) → closing leb plus neutral blank xs ≡ Some ys → ClosedForm leb plus neutral (cell blank xs) (cell blank ys)
  closing_closed ys e =
      let s = closing_some ys e in
      let sound = (sound_decides leb neutral (cell blank (passes leb plus blank 7 xs))).0 s.1 in
      rw s.0 (closed_form_is laws _ _ (passes_sofar sound 7 (omega arith)) sound)

  pub closing_falling : closing leb plus neutral blank xs ≡ None → Falling leb plus neutral (cell blank xs)
  unfolding closing
  closing_falling e =
      let end = cell blank (passes leb plus blank 7 xs) in
      ⊎_elim
      (λ t. absurd (let s = cond-true _ (Some (passes leb plus blank 7 xs)) None t in let z : ◌≡◌ {A = ℕ} 0 1 = cc in omega arith))
      (λ f. let u = unsound_place leb neutral end 7 f in falling laws (cell blank xs) u.0 _ u.1 (passes_ways 7 u.0 u.0 (omega arith) u.1 u.1) u.2)
      (cases_Bool (sound_below leb neutral end 7))

  pub closing_when : (ys : List V) (r : Bool) → closing leb plus neutral blank xs ≡ cond r (Some ys) None → MatchBool r (ClosedForm leb plus neutral (cell blank xs) (cell blank ys)) (Falling leb plus neutral (cell blank xs))
  closing_when ys true e = closing_closed ys e
  closing_when ys false e = closing_falling e

  pub closing_length : (ys : List V) → closing leb plus neutral blank xs ≡ Some ys → length ys ≡ 49
  closing_length ys e = ap length (closing_some ys e).0 ∙ length_one_pass leb plus blank 6 (passes leb plus blank 6 xs)

  stays : length xs ≡ 49 → Closed leb plus (cell blank xs) → (k : ℕ) → k ≤ 7 → passes leb plus blank k xs ≡ xs
  stays long closed zero hk = refl
  stays long closed (suc k) hk =
      let here : k < 7 = omega arith in
      ap (one_pass leb plus blank k) (stays long closed k (omega arith))
      ∙ sym (one_pass_from leb plus blank k xs xs long (λ i j hi hj. sym (cond-true _ _ _ (closed i k j hi here hj))))

  -- a matrix in closed form stays
  pub closing_closed_stays : length xs ≡ 49 → Closed leb plus (cell blank xs) → Sound leb neutral (cell blank xs) → closing leb plus neutral blank xs ≡ Some xs
  closing_closed_stays long closed sound =
      closing_test xs true (sym (stays long closed 7 (omega arith))) (sym ((sound_decides leb neutral (cell blank xs)).1 sound))

  -- each pass doubles the sizes at most
  pub passes_room : (size : V → ℕ) → ((x y : V) → size (plus x y) ≤ size x + size y) → (n k : ℕ) → k ≤ 7 → Within size blank n xs → Within size blank (n * 2 ^ k) (passes leb plus blank k xs)
  passes_room size grows n zero hk room i j hi hj = omega (arith, room i j hi hj)
  passes_room size grows n (suc k) hk room i j hi hj =
      let here : k < 7 = omega arith in
      let before : (i j : ℕ) → i < 7 → j < 7 → size (cell blank (passes leb plus blank k xs) i j) ≤ n * 2 ^ k = passes_room size grows n k (omega arith) room in
      let a = before i j hi hj in
      let b = before i k hi here in
      let c = before k j here hj in
      let power : 2 ^ suc k ≡ 2 * 2 ^ k = omega arith in
      let twice : n * 2 ^ suc k ≡ 2 * (n * 2 ^ k) = ap (λ (m : ℕ). n * m) power ∙ mul_left_comm n 2 (2 ^ k) in
      rw (one_pass_cell leb plus blank k (passes leb plus blank k xs) i j hi hj)
      (lesser_is leb (λ x. size x ≤ n * 2 ^ suc k) _ _ (omega arith) (omega (arith, grows (cell blank (passes leb plus blank k xs) i k) (cell blank (passes leb plus blank k xs) k j))))

  pub closing_room : (size : V → ℕ) → ((x y : V) → size (plus x y) ≤ size x + size y) → (n : ℕ) → Within size blank n xs → (ys : List V) → closing leb plus neutral blank xs ≡ Some ys → Within size blank (128 * n) ys
  closing_room size grows n room ys e i j hi hj = rw (closing_some ys e).0 (omega (arith, passes_room size grows n 7 (omega arith) room i j hi hj))
