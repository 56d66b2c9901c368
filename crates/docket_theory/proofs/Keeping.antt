-- Every call keeps the marks justified. The laws of the kind are not used here.
use Rattle.std.proofs.Common.{◌≡◌, ℕ, zero, suc, ◌+◌, ◌-◌, ◌*◌, ◌<◌, Bool, true, false, cond, not, eqb, ltb, leb, ◌⊎◌, length, get_or, set, Some, None, Ok, Err, Option, Result, sym, refl, ap, ◌∙◌, subst, subst₂, inl, inr, arith}
use Rattle.std.proofs.lemmas.Bool.{cases_eq, cond_both, eqb-true, eq-eqb, ne_eqb, leb-true, leb-false, ltb-true, and_parts, not-false, both_ways}
use Rattle.std.specs.List.{slice_get}
use Rattle.slip.specs.declared.Refusal.TheVariants.{DocketFull, Unknown, EmptySet, OtherCell, NotHeld}
use Rattle.slip.specs.declared.Slip.{Slip}
use Rattle.model.specs.declared.outgoing.Move.{Move}
use Rattle.model.specs.Below.{first_bad, or_else}
use Rattle.model.specs.Outgoing.{moves_out}
use Rattle.model.specs.Plans.{Plan, Accepted}
use Rattle.model.specs.Rules.{few_ok}
use Rattle.model.proofs.Below.{all_at}
use Rattle.clockset.specs.Calls.{Calls}
use Rattle.docket_theory.specs.declared.Duty.{Duty}
use Rattle.docket_theory.specs.declared.Duty.TheVariants.{Leave}
use Rattle.docket_theory.specs.declared.Entry.{Entry}
use Rattle.docket_theory.specs.Docket.{slip, settle_fault, duty_fault, unless, entry_opened, forget, lodge_fault, lodge_after, strike_after, duty_at, duty_mark, marked, held_fault, holder_fault, claim_fault, claim_mark, can_hold, lowest_holder, holder_mark, found_mark, swept_mark, duty_swept}
use Rattle.docket_theory.specs.Images.{duty_image, duty_target}
use Rattle.docket_theory.specs.Worlds.{World, open_mark, empty_mark, steps_per_entry, row_at, mark_place, mark_at, capacity}
use Rattle.docket_theory.proofs.Marks.{nth_set_other, nth_set_same, opened_cases, opened_at, forget_cases, forget_mark, marked_any, SamePlace, mark_cases, marked_same}
use Rattle.docket_theory.proofs.Outgoing.{nth_lt}
use Rattle.docket_theory.proofs.Rows.{none_some, same_some, row_parts, row_from, Names, opens, leaves, names, named}

-- a refused call keeps what holds of the world
pub kept_unless : {S A : Type 0} (P : World S → Type 0) (o : Option Slip) (a : A) (after w : World S) → P w → (o ≡ None → P after) → P (unless o a after w).1
kept_unless P None a after w h step = step refl
kept_unless P (Some e) a after w h step = h

-- a chain of tests that finds nothing to refuse
pub passed : {X : Type 0} (b : Bool) (o : Option X) (e : X) → cond b o (Some e) ≡ None → (b ≡ true) × (o ≡ None)
passed true o e q = (refl, q)
passed false o e q = absurd (none_some q refl)

pub passed_by : {X : Type 0} (b : Bool) (o : Option X) (e : X) → cond b (Some e) o ≡ None → (b ≡ false) × (o ≡ None)
passed_by true o e q = absurd (none_some q refl)
passed_by false o e q = (refl, q)

-- the lowest number at which a test fails
bad_at : (n h : ℕ) (f : ℕ → Bool) → first_bad n f ≡ Some h → (h < n) × (f h ≡ false)
unfolding first_bad
bad_at zero h f e = absurd (none_some refl e)
bad_at (suc n) h f e = parts (first_bad n f) (f n) refl refl (bad_at n h f) e
  where
    parts : (o : Option ℕ) (b : Bool) → first_bad n f ≡ o → f n ≡ b → (first_bad n f ≡ Some h → (h < n) × (f h ≡ false)) → or_else o (cond b None (Some n)) ≡ Some h → (h < suc n) × (f h ≡ false)
    parts None true is at below q = absurd (none_some refl q)
    parts None false is at below q = let same : n ≡ h = same_some q in (omega arith, rw (← same) at)
    parts (Some i) b is at below q = let r = below (is ∙ q) in (omega (arith, r.0), r.1)

module _ {S : Type 0} (k : Calls S) (m : Plan) where
  -- a mark is justified: the image came, and is empty or within the entry on the target cell that the mark names
  abbrev pub Held : World S → Duty S → ℕ → Type 0
  Held w d t =
      (a : S) × (duty_image k m d ≡ Ok a) × (((t ≡ empty_mark) × (k.empty a ≡ true)) ⊎ ((e : Entry S) × (row_at w t ≡ Some e) × (e.cell ≡ duty_target m d) × (k.within a e.set ≡ true)))

  -- every mark that is not open is justified
  abbrev pub Kept : World S → Type 0
  Kept w = (i j : ℕ) (d : Duty S) → duty_at m w i j ≡ Some d → (duty_mark w i j ≡ open_mark → ⊥) → Held w d (duty_mark w i j)

  -- the rows that the mark may name stay
  held_on : (w v : World S) (d : Duty S) (t u : ℕ) → u ≡ t → ((e : Entry S) → row_at w t ≡ Some e → row_at v t ≡ Some e) → Held w d t → Held v d u
  held_on w v d t u is stay held =
      subst (Held v d) (sym is) (held.0, held.1, elim held.2 [ inl none ↦ inl none | inr by ↦ inr (by.0, stay by.0 by.1, by.2, by.3) ])

  -- the cells of the live entries are cells of the model
  abbrev pub Known : World S → Type 0
  Known w = (i : ℕ) (e : Entry S) → row_at w i ≡ Some e → e.cell < length m.cells

  -- a step's number is below the number of marks that an entry has
  pub step_few : Accepted m → (c j : ℕ) (move : Move) → c < length m.cells → slice_get (moves_out m.cells c) j ≡ Some move → j < steps_per_entry
  unfolding few_ok
  step_few ok c j move here at =
      let most = leb-true _ _ (all_at (length m.cells) c (few_ok m.cells) ok.few here) in
      let lt = nth_lt (moves_out m.cells c) j move at in omega arith

  -- two duties with one mark are one duty
  one_name : Accepted m → (w : World S) → Known w → (i j x y : ℕ) (d b : Duty S) → duty_at m w i j ≡ Some d → duty_at m w x y ≡ Some b → SamePlace w i j x y → (x ≡ i) × (y ≡ j)
  one_name ok w known i j x y d b at at' same = by d b (names m w i j d at) (names m w x y b at') same
    where
      by : (d b : Duty S) → Names m w i j d → Names m w x y b → SamePlace w i j x y → (x ≡ i) × (y ≡ j)
      by d b (opens is zero_is) (opens is' zero-is') p = (is' ∙ sym is, zero-is' ∙ sym zero_is)
      by d b (opens is zero_is) (leaves e move ne row step) p =
          absurd (elim p [ inl q ↦ ne q.1 | inr q ↦ q.0 is ])
      by d b (leaves e move ne row step) (opens is zero_is) p =
          absurd (elim p [ inl q ↦ ne q.0 | inr q ↦ q.1 is ])
      by d b (leaves e move ne row step) (leaves e' move' ne' row' step') p =
          let few = step_few ok e.cell j move (known i e row) step in
          let few' = step_few ok e'.cell y move' (known x e' row') step' in
          elim p [ inl q ↦ absurd (ne q.0) | inr q ↦ let place = q.2 in (omega arith, omega arith) ]

  pub marked_row : (w : World S) (i j t x : ℕ) → row_at (marked i j t w) x ≡ row_at w x
  marked_row w i j t x = marked_any w (λ (v : World S). row_at v x ≡ row_at w x) i j t (λ marks o len. refl)

  marked_duty : (w : World S) (i j t x y : ℕ) → duty_at m (marked i j t w) x y ≡ duty_at m w x y
  marked_duty w i j t x y = marked_any w (λ (v : World S). duty_at m v x y ≡ duty_at m w x y) i j t (λ marks o len. refl)

  -- a justified mark may be written
  kept_mark : Accepted m → (w : World S) → Known w → (i j t : ℕ) (d : Duty S) → duty_at m w i j ≡ Some d → ((t ≡ open_mark → ⊥) → Held w d t) → Kept w → Kept (marked i j t w)
  kept_mark ok w known i j t d at good kept x y b at' settled = elim (mark_cases w i j t x y) [ inl same ↦ old same | inr written ↦ new written.0 written.1 ]
    where
      v : World S
      v = marked i j t w

      here : duty_at m w x y ≡ Some b
      here = sym (marked_duty w i j t x y) ∙ at'

      one : (x ≡ i) × (y ≡ j) → d ≡ b
      one q = same_some (sym at ∙ subst₂ (λ (p r : ℕ). duty_at m w p r ≡ Some b) q.0 q.1 here)

      old : duty_mark v x y ≡ duty_mark w x y → Held v b (duty_mark v x y)
      old same =
          held_on w v b (duty_mark w x y) (duty_mark v x y) same (λ e row. marked_row w i j t (duty_mark w x y) ∙ row) (kept x y b here (λ is. settled (same ∙ is)))

      new : SamePlace w i j x y → duty_mark v x y ≡ t → Held v b (duty_mark v x y)
      new place is =
          subst (λ (z : Duty S). Held v z (duty_mark v x y)) (one (one_name ok w known i j x y d b at here place)) (held_on w v d t (duty_mark v x y) is (λ e row. marked_row w i j t t ∙ row) (good (λ none. settled (is ∙ none))))

  -- settle

  pub held_none : (i : ℕ) (test : S → Bool) (r : Result S Slip) → held_fault i test r ≡ None → (a : S) × (r ≡ Ok a) × (test a ≡ true)
  held_none i test (Err e) q = absurd (none_some q refl)
  held_none i test (Ok a) q = (a, refl, (passed (test a) None (slip NotHeld i) q).0)

  claim_held : (w : World S) (i : ℕ) (d : Duty S) (claim : Option ℕ) → claim_fault k m w i d claim ≡ None → Held w d (claim_mark claim)
  claim_held w i d None q = let r = held_none i k.empty (duty_image k m d) q in (r.0, r.1, inl (refl, r.2))
  claim_held w i d (Some h) q = row (row_at w h) refl q
    where
      row : (o : Option (Entry S)) → row_at w h ≡ o → holder_fault k m i d o ≡ None → Held w d h
      row None at p = absurd (none_some p refl)
      row (Some e) at p =
          let on = passed (eqb e.cell (duty_target m d)) (held_fault i (λ a. k.within a e.set) (duty_image k m d)) (slip OtherCell i) p in
          let r = held_none i (λ a. k.within a e.set) (duty_image k m d) on.1 in
          (r.0, r.1, inr (e, at, eqb-true _ _ on.0, r.2))

  pub kept_settle : Accepted m → (w : World S) → Known w → (i j : ℕ) (claim : Option ℕ) → settle_fault k m i j claim w ≡ None → Kept w → Kept (marked i j (claim_mark claim) w)
  kept_settle ok w known i j claim q kept = by (duty_at m w i j) refl q
    where
      by : (o : Option (Duty S)) → duty_at m w i j ≡ o → duty_fault k m w i o claim ≡ None → Kept (marked i j (claim_mark claim) w)
      by None at p = absurd (none_some p refl)
      by (Some d) at p = kept_mark ok w known i j (claim_mark claim) d at (λ ne. claim_held w i d claim p) kept

  -- sweep

  -- the lowest holder holds
  pub lowest_holds : (w : World S) (a : S) (goal h : ℕ) → lowest_holder k w a goal ≡ Some h → (h < w.live) × ((e : Entry S) × (row_at w h ≡ Some e) × (e.cell ≡ goal) × (k.within a e.set ≡ true))
  lowest_holds w a goal h q =
      let r = bad_at w.live h (λ x. not (can_hold k a goal (row_at w x))) q in
      (r.0, by (row_at w h) refl (not-false _ r.1))
    where
      by : (o : Option (Entry S)) → row_at w h ≡ o → can_hold k a goal o ≡ true → (e : Entry S) × (row_at w h ≡ Some e) × (e.cell ≡ goal) × (k.within a e.set ≡ true)
      by None at p = absurd (both_ways false refl p)
      by (Some e) at p = let r = and_parts (eqb e.cell goal) (k.within a e.set) p in (e, at, eqb-true _ _ r.0, r.1)

  found_held : (w : World S) (d : Duty S) → (found_mark k w (duty_target m d) (duty_image k m d) ≡ open_mark → ⊥) → Held w d (found_mark k w (duty_target m d) (duty_image k m d))
  found_held w d ne = came (duty_image k m d) refl ne
    where
      lowest : (a : S) (o : Option ℕ) → duty_image k m d ≡ Ok a → lowest_holder k w a (duty_target m d) ≡ o → (holder_mark o ≡ open_mark → ⊥) → Held w d (holder_mark o)
      lowest a None im is ne = absurd (ne refl)
      lowest a (Some h) im is ne = (a, im, inr (lowest_holds w a (duty_target m d) h is).1)

      tested : (a : S) (b : Bool) → duty_image k m d ≡ Ok a → k.empty a ≡ b → (cond b empty_mark (holder_mark (lowest_holder k w a (duty_target m d))) ≡ open_mark → ⊥) → Held w d (cond b empty_mark (holder_mark (lowest_holder k w a (duty_target m d))))
      tested a true im is ne = (a, im, inl (refl, is))
      tested a false im is ne = lowest a (lowest_holder k w a (duty_target m d)) im refl ne

      came : (r : Result S Slip) → duty_image k m d ≡ r → (found_mark k w (duty_target m d) r ≡ open_mark → ⊥) → Held w d (found_mark k w (duty_target m d) r)
      came (Err e) im ne = absurd (ne refl)
      came (Ok a) im ne = tested a (k.empty a) im refl ne

  pub kept_duty : Accepted m → (w : World S) → Known w → (i j : ℕ) → Kept w → Kept (duty_swept k m i j w)
  kept_duty ok w known i j kept = by (duty_at m w i j) refl
    where
      by : (o : Option (Duty S)) → duty_at m w i j ≡ o → Kept (marked i j (swept_mark k m w o (duty_mark w i j)) w)
      by None at = subst Kept (sym (marked_same w i j)) kept
      by (Some d) at =
          kept_mark ok w known i j (swept_mark k m w (Some d) (duty_mark w i j)) d at
          (cond_both (eqb (duty_mark w i j) open_mark) (found_mark k w (duty_target m d) (duty_image k m d)) (duty_mark w i j) (λ (t : ℕ). (t ≡ open_mark → ⊥) → Held w d t) (λ is. found_held w d) (λ is. kept i j d at)) kept

  -- lodge

  pub lodge_none : (cell : ℕ) (a : S) (w : World S) → lodge_fault k m cell a w ≡ None → (w.live < capacity w) × (cell < length m.cells) × (k.empty a ≡ false)
  lodge_none cell a w q =
      let full = passed_by (leb (capacity w) w.live) _ (slip DocketFull w.live) q in
      let cells = passed (ltb cell (length m.cells)) _ (slip Unknown w.live) full.1 in
      let vacant = passed_by (k.empty a) None (slip EmptySet w.live) cells.1 in
      (leb-false _ _ full.0, ltb-true _ _ cells.0, vacant.0)

  module _ (cell : ℕ) (a : S) (w : World S) (room : w.live < length w.rows) where
    lodge_stays : (t : ℕ) (e : Entry S) → row_at w t ≡ Some e → row_at (lodge_after cell a w) t ≡ Some e
    lodge_stays t e row =
        let r = row_parts w.rows w.live t e row in
        let lt = r.0 in
        row_from _ (w.live + 1) t e (omega arith) (nth_set_other w.rows w.live t (record { cell = cell; set = a }) (λ is. absurd (omega arith)) ∙ r.1)

    lodge_rows : (i : ℕ) (e : Entry S) → row_at (lodge_after cell a w) i ≡ Some e → (row_at w i ≡ Some e) ⊎ ((i ≡ w.live) × (e.cell ≡ cell))
    lodge_rows i e row = elim (cases_eq i w.live) [ inl is ↦ inr (is, new is) | inr ne ↦ inl (old ne) ]
      where
        added : Entry S
        added = record { cell = cell; set = a }

        there : (i < w.live + 1) × (slice_get (set w.rows w.live added) i ≡ Some e)
        there = row_parts (set w.rows w.live added) (w.live + 1) i e row

        new : i ≡ w.live → e.cell ≡ cell
        new is =
            let last : slice_get (set w.rows w.live added) i ≡ Some added = rw is (nth_set_same w.rows w.live added room) in
            ap (λ (x : Entry S). x.cell) (same_some (sym there.1 ∙ last))

        old : (i ≡ w.live → ⊥) → row_at w i ≡ Some e
        old ne =
            row_from w.rows w.live i e (omega (arith, there.0)) (sym (nth_set_other w.rows w.live i added ne) ∙ there.1)

    lodge_mark : (x y : ℕ) → (duty_mark (lodge_after cell a w) x y ≡ duty_mark w x y) ⊎ (duty_mark (lodge_after cell a w) x y ≡ open_mark)
    lodge_mark x y =
        elim (cases_eq x open_mark) [ inl is ↦ rw (eq-eqb x open_mark is) (inl refl) | inr ne ↦ rw (ne_eqb x open_mark ne) (opened_cases w.marks (w.live * steps_per_entry) steps_per_entry (mark_place x y)) ]

    pub known_lodge : cell < length m.cells → Known w → Known (lodge_after cell a w)
    known_lodge here known i e row =
        elim (lodge_rows i e row) [ inl old ↦ known i e old | inr new ↦ rw new.1 here ]

    pub kept_lodge : Accepted m → cell < length m.cells → Kept w → Kept (lodge_after cell a w)
    kept_lodge ok here kept x y d at settled = by d (names m (lodge_after cell a w) x y d at) settled
      where
        old : (d : Duty S) → duty_at m w x y ≡ Some d → (duty_mark (lodge_after cell a w) x y ≡ open_mark → ⊥) → Held (lodge_after cell a w) d (duty_mark (lodge_after cell a w) x y)
        old d at settled =
            elim (lodge_mark x y) [ inl same ↦ held_on w (lodge_after cell a w) d (duty_mark w x y) (duty_mark (lodge_after cell a w) x y) same (λ e row. lodge_stays (duty_mark w x y) e row) (kept x y d at (λ is. settled (same ∙ is))) | inr none ↦ absurd (settled none) ]

        new : (e : Entry S) (move : Move) → (x ≡ open_mark → ⊥) → x ≡ w.live → e.cell ≡ cell → slice_get (moves_out m.cells e.cell) y ≡ Some move → duty_mark (lodge_after cell a w) x y ≡ open_mark
        new e move ne is on step =
            let few = step_few ok e.cell y move (rw on here) step in
            rw (ne_eqb x open_mark ne, is) (opened_at w.marks (w.live * steps_per_entry) steps_per_entry y few)

        by : (d : Duty S) → Names m (lodge_after cell a w) x y d → (duty_mark (lodge_after cell a w) x y ≡ open_mark → ⊥) → Held (lodge_after cell a w) d (duty_mark (lodge_after cell a w) x y)
        by d (opens is zero_is) settled = old d (named m w x y d (opens is zero_is)) settled
        by d (leaves e move ne row step) settled =
            elim (lodge_rows x e row) [ inl before ↦ old (Leave e move) (named m w x y (Leave e move) (leaves e move ne before step)) settled | inr after ↦ absurd (settled (new e move ne after.0 after.1 step)) ]

  -- strike

  module _ (w : World S) where
    pub strike_row : (t : ℕ) (e : Entry S) → row_at (strike_after w) t ≡ Some e → row_at w t ≡ Some e
    strike_row t e row =
        let r = row_parts w.rows (w.live - 1) t e row in row_from w.rows w.live t e (omega (arith, r.0)) r.1

    strike_stays : (t : ℕ) (e : Entry S) → (t ≡ w.live - 1 → ⊥) → row_at w t ≡ Some e → row_at (strike_after w) t ≡ Some e
    strike_stays t e ne row =
        let r = row_parts w.rows w.live t e row in row_from w.rows (w.live - 1) t e (omega (arith, r.0)) r.1

    strike_mark : (x y : ℕ) → (duty_mark (strike_after w) x y ≡ open_mark) ⊎ ((duty_mark (strike_after w) x y ≡ duty_mark w x y) × (duty_mark w x y ≡ w.live - 1 → ⊥))
    strike_mark x y =
        elim (cases_eq x open_mark) [ inl is ↦ rw (eq-eqb x open_mark is) (forget_cases (w.live - 1) w.opening) | inr ne ↦ rw (ne_eqb x open_mark ne, forget_mark (w.live - 1) (entry_opened w.marks (w.live - 1)) (mark_place x y)) table ]
      where
        table : (forget (w.live - 1) (get_or (entry_opened w.marks (w.live - 1)) (mark_place x y) open_mark) ≡ open_mark) ⊎ ((forget (w.live - 1) (get_or (entry_opened w.marks (w.live - 1)) (mark_place x y) open_mark) ≡ mark_at w x y) × (mark_at w x y ≡ w.live - 1 → ⊥))
        table =
            elim (forget_cases (w.live - 1) (get_or (entry_opened w.marks (w.live - 1)) (mark_place x y) open_mark)) [ inl none ↦ inl none | inr keeps ↦ elim (opened_cases w.marks ((w.live - 1) * steps_per_entry) steps_per_entry (mark_place x y)) [ inl old ↦ inr (keeps.0 ∙ old, λ is. keeps.1 (old ∙ is)) | inr none ↦ inl (keeps.0 ∙ none) ] ]

    pub kept_strike : Kept w → Kept (strike_after w)
    kept_strike kept x y d at settled =
        elim (strike_mark x y) [ inl none ↦ absurd (settled none) | inr same ↦ held_on w (strike_after w) d (duty_mark w x y) (duty_mark (strike_after w) x y) same.0 (λ e row. strike_stays (duty_mark w x y) e same.1 row) (kept x y d (before d (names m (strike_after w) x y d at)) (λ is. settled (same.0 ∙ is))) ]
      where
        before : (d : Duty S) → Names m (strike_after w) x y d → duty_at m w x y ≡ Some d
        before d (opens is zero_is) = named m w x y d (opens is zero_is)
        before d (leaves e move ne row step) = named m w x y (Leave e move) (leaves e move ne (strike_row x e row) step)
