-- The tests of the rules say what the rules mean.
use Rattle.std.proofs.Common.{◌≡◌, ℕ, zero, suc, ◌+◌, ◌-◌, ◌<◌, ◌≤◌, Bool, true, false, cond, not, ◌&&◌, ◌||◌, eqb, ◌⊎◌, length, get_or, sym, refl, ap, ◌∙◌, inl, inr, arith}
use Rattle.std.specs.List.{remove}
use Rattle.std.proofs.lemmas.List.FromFn.{length-map-range_with_len, get_or-map-range_with_len, fill_by_all}
use Rattle.std.proofs.lemmas.List.Edits.{length-remove, get_or-remove_below, get_or-remove_above}
use Rattle.std.proofs.lemmas.Bool.{and_parts, or_cases, or_left, or_right, not-true, both_ways, eqb-true, eq-eqb, leb-true, cases_lt, lt-ltb, le-ltb}
use Rattle.wire.specs.declared.cell.Cell.{Cell}
use Rattle.wire.specs.declared.cell.Letter.{Letter}
use Rattle.wire.specs.declared.cell.Letter.TheVariants.{Barrier, Display, Read, Write, Sensor}
use Rattle.model.specs.Below.{all_below}
use Rattle.model.specs.Cells.{cell_at, event_at, face, letters}
use Rattle.model.specs.Laws.{Lawful}
use Rattle.model.specs.Outgoing.{moves_out}
use Rattle.model.specs.Plans.{Plan, Accepted}
use Rattle.model.specs.Rules.{rank, past, same_at, lacks, lacks_both, letters_ok, commutes, commutes_all, identity_ok, quiet_ok, few_ok}
use Rattle.model.proofs.Below.{all_at}
use Rattle.model.proofs.Within.{face_within}

-- the letter of a number
letter_of_is : ℕ → Letter
letter_of_is zero = Barrier
letter_of_is (suc zero) = Display
letter_of_is (suc (suc zero)) = Read
letter_of_is (suc (suc (suc zero))) = Write
letter_of_is (suc (suc (suc (suc n)))) = Sensor

letter_back : (l : Letter) → letter_of_is (rank l) ≡ l
unfolding letter_of_is
letter_back Barrier = refl
letter_back Display = refl
letter_back Read = refl
letter_back Write = refl
letter_back Sensor = refl

same_letter : (a b : Letter) → eqb (rank a) (rank b) ≡ true → a ≡ b
same_letter a b e = sym (letter_back a) ∙ ap letter_of_is (eqb-true (rank a) (rank b) e) ∙ letter_back b

module _ (f c : Cell) (k : ℕ) (lt : k < c.dim) (h : lacks f c k ≡ true) where
  parts : (eqb (f.dim + 1) c.dim ≡ true) × (all_below f.dim (same_at f c k) ≡ true)
  unfolding lacks
  parts = and_parts (eqb (f.dim + 1) c.dim) (all_below f.dim (same_at f c k)) h

  fewer : f.dim + 1 ≡ c.dim
  fewer = eqb-true (f.dim + 1) c.dim parts.0

  same : (j : ℕ) → j < f.dim → (event_at f j).letter ≡ (event_at c (past k j)).letter
  same j less = same_letter (event_at f j).letter (event_at c (past k j)).letter (all_at f.dim j (same_at f c k) parts.1 less)

  all : length (letters c) ≡ c.dim
  all = length-map-range_with_len (λ i. (event_at c i).letter) 0 c.dim

  inside : k < length (letters c)
  inside = omega (arith, all)

  each : (j : ℕ) → j < f.dim → get_or (remove (letters c) k) j Barrier ≡ (event_at f j).letter
  each j less = side (cases_lt j k)
    where
      side : (j < k) ⊎ (k ≤ j) → get_or (remove (letters c) k) j Barrier ≡ (event_at f j).letter
      side (inl low) =
          let e : past k j ≡ j = ap (λ (b : Bool). cond b j (j + 1)) (lt-ltb j k low) in
          get_or-remove_below (letters c) k Barrier j low inside
          ∙ get_or-map-range_with_len (λ i. (event_at c i).letter) 0 c.dim j (past k j) Barrier (omega (arith, fewer)) (omega (arith, e))
          ∙ sym (same j less)
      side (inr high) =
          let e : past k j ≡ j + 1 = ap (λ (b : Bool). cond b j (j + 1)) (le-ltb j k high) in
          get_or-remove_above (letters c) k Barrier j high inside
          ∙ get_or-map-range_with_len (λ i. (event_at c i).letter) 0 c.dim (j + 1) (past k j) Barrier (omega (arith, fewer)) (omega (arith, e))
          ∙ sym (same j less)

  lacks_letters : letters f ≡ remove (letters c) k
  lacks_letters =
      let long : length (remove (letters c) k) ≡ f.dim = omega (arith, length-remove (letters c) k inside, all, fewer) in
      sym (fill_by_all (λ i. (event_at f i).letter) (remove (letters c) k) f.dim Barrier long each)

four : (x y z w : Bool) → (x && (y && (z && w))) ≡ true → (x ≡ true) × (y ≡ true) × (z ≡ true) × (w ≡ true)
four x y z w h =
    let a = and_parts x (y && (z && w)) h in
    let b = and_parts y (z && w) a.1 in
    let c = and_parts z w b.1 in
    (a.0, b.0, c.0, c.1)

module _ (p : Plan) (ok : Accepted p) where
  both_faces : (i k : ℕ) → i < length p.cells → k < (cell_at p.cells i).dim → (lacks (cell_at p.cells (face p.cells false i k)) (cell_at p.cells i) k ≡ true) × (lacks (cell_at p.cells (face p.cells true i k)) (cell_at p.cells i) k ≡ true)
  unfolding letters_ok
  both_faces i k here event =
      and_parts _ _ (all_at (cell_at p.cells i).dim k (lacks_both p.cells i) (all_at (length p.cells) i (letters_ok p.cells) ok.lettered here) event)

  lettered : (upper : Bool) (i k : ℕ) → i < length p.cells → k < (cell_at p.cells i).dim → letters (cell_at p.cells (face p.cells upper i k)) ≡ remove (letters (cell_at p.cells i)) k
  lettered true i k here event = lacks_letters (cell_at p.cells (face p.cells true i k)) (cell_at p.cells i) k event (both_faces i k here event).1
  lettered false i k here event = lacks_letters (cell_at p.cells (face p.cells false i k)) (cell_at p.cells i) k event (both_faces i k here event).0

  sides : (i k m : ℕ) → i < length p.cells → k < m → m < (cell_at p.cells i).dim → commutes_all p.cells i m k ≡ true
  unfolding identity_ok
  sides i k m here below event =
      all_at m k (commutes_all p.cells i m) (all_at (cell_at p.cells i).dim m (λ n. all_below n (commutes_all p.cells i n)) (all_at (length p.cells) i (identity_ok p.cells) ok.commuting here) event) below

  all_four : (i k m : ℕ) → i < length p.cells → k < m → m < (cell_at p.cells i).dim → (commutes p.cells i k m false false ≡ true) × (commutes p.cells i k m false true ≡ true) × (commutes p.cells i k m true false ≡ true) × (commutes p.cells i k m true true ≡ true)
  unfolding commutes_all
  all_four i k m here below event =
      four (commutes p.cells i k m false false) (commutes p.cells i k m false true) (commutes p.cells i k m true false) (commutes p.cells i k m true true) (sides i k m here below event)

  commuting : (a b : Bool) (i k m : ℕ) → i < length p.cells → k < m → m < (cell_at p.cells i).dim → face p.cells a (face p.cells b i m) k ≡ face p.cells b (face p.cells a i k) (m - 1)
  commuting false false i k m here below event = eqb-true _ _ (all_four i k m here below event).0
  commuting false true i k m here below event = eqb-true _ _ (all_four i k m here below event).1
  commuting true false i k m here below event = eqb-true _ _ (all_four i k m here below event).2
  commuting true true i k m here below event = eqb-true _ _ (all_four i k m here below event).3

  quiet : (i : ℕ) → i < length p.cells → (i ≡ p.first) ⊎ ((cell_at p.cells i).last ≡ true) → (cell_at p.cells i).dim ≡ 0
  unfolding quiet_ok
  quiet i here why = by (or_cases (eqb (cell_at p.cells i).dim 0) (not (eqb i p.first || (cell_at p.cells i).last)) (all_at (length p.cells) i (quiet_ok p.first p.cells) ok.quiet here))
    where
      busy : (i ≡ p.first) ⊎ ((cell_at p.cells i).last ≡ true) → (eqb i p.first || (cell_at p.cells i).last) ≡ true
      busy (inl e) = or_left (eqb i p.first) (cell_at p.cells i).last (eq-eqb i p.first e)
      busy (inr e) = or_right (eqb i p.first) (cell_at p.cells i).last e

      by : (eqb (cell_at p.cells i).dim 0 ≡ true) ⊎ (not (eqb i p.first || (cell_at p.cells i).last) ≡ true) → (cell_at p.cells i).dim ≡ 0
      by (inl e) = eqb-true (cell_at p.cells i).dim 0 e
      by (inr e) = absurd (both_ways (eqb i p.first || (cell_at p.cells i).last) (not-true (eqb i p.first || (cell_at p.cells i).last) e) (busy why))

  few : (i : ℕ) → i < length p.cells → length (moves_out p.cells i) ≤ 16
  unfolding few_ok
  few i here = leb-true _ _ (all_at (length p.cells) i (few_ok p.cells) ok.few here)

  pub lawful : Lawful p
  lawful =
      record { small = ok.small; begins = ok.begins; linked = λ upper i k here event. face_within p.cells upper i k here event ok.linked; lettered = lettered; commuting = commuting; quiet = quiet; few = few }
