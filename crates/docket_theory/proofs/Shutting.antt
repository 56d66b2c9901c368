-- When every duty is settled, and that a sweep settles every duty that can be.
use Rattle.std.proofs.Common.{◌≡◌, ℕ, zero, suc, ◌<◌, ◌≤◌, true, false, cond, not, eqb, ◌⊎◌, List, [], ◌∷◌, length, Some, None, Option, Result, sym, refl, ap, ◌∙◌, subst, inl, inr, arith}
use Rattle.std.proofs.lemmas.Bool.{cases_eq, cond_both, eqb-false, eq-eqb, ne_eqb, not-true, not_from_false, both_ways, and_from}
use Rattle.std.specs.List.{slice_get}
use Rattle.slip.specs.declared.Slip.{Slip}
use Rattle.clocks.specs.Readings.{Reading}
use Rattle.model.specs.Outgoing.{moves_out}
use Rattle.model.specs.Plans.{Plan, Accepted}
use Rattle.model.proofs.Below.{all_at, all_every, all_from_none}
use Rattle.clockset.specs.Calls.{Calls}
use Rattle.clockset.specs.Laws.{Sound, Sure}
use Rattle.docket_theory.specs.declared.Duty.{Duty}
use Rattle.docket_theory.specs.declared.Duty.TheVariants.{Opening, Leave}
use Rattle.docket_theory.specs.declared.Entry.{Entry}
use Rattle.docket_theory.specs.Docket.{duty_of, duty_at, duty_mark, can_hold, lowest_holder, holder_mark, found_mark, swept_mark, duty_swept, steps_swept, steps_out, entries_swept, swept_world, open_one, open_steps, open_entries, open_duties, is_final, final_row, none_final}
use Rattle.docket_theory.specs.Images.{duty_image, duty_target}
use Rattle.docket_theory.specs.Promise.{Closed, Justified, TakenUp}
use Rattle.docket_theory.specs.Worlds.{World, open_mark, empty_mark, most_entries, row_at, mark_place, mark_at}
use Rattle.docket_theory.proofs.Keeping.{Held, lowest_holds, step_few}
use Rattle.docket_theory.proofs.Marks.{mark_cases, same_mark, mark_written}
use Rattle.docket_theory.proofs.Orderly.{Same, same_marked, same_row, same_steps, same_entries, same_swept, Orderly, orderly_duty, orderly_entries}
use Rattle.docket_theory.proofs.Outgoing.{nth_lt}
use Rattle.docket_theory.proofs.Rows.{row_parts, Names, opens, leaves, names, named}

-- a mark counts as open, or does not
open_one_is : (t : ℕ) → open_one t ≡ 0 → t ≡ open_mark → ⊥
open_one_is t none is = let one : open_one t ≡ 1 = rw (eq-eqb t open_mark is) in omega arith

none_open : (t : ℕ) → (t ≡ open_mark → ⊥) → open_one t ≡ 0
none_open t ne = rw (ne_eqb t open_mark ne)

nth_some : {X : Type 0} (xs : List X) (i : ℕ) → i < length xs → (x : X) × (slice_get xs i ≡ Some x)
nth_some [] i lt = absurd (omega arith)
nth_some (y ∷ xs) zero lt = (y, refl)
nth_some (y ∷ xs) (suc i) lt = nth_some xs i (omega arith)

module _ {S : Type 0} (m : Plan) (w : World S) where
  steps_none : (i n j : ℕ) → open_steps w i n ≡ 0 → j < n → mark_at w i j ≡ open_mark → ⊥
  unfolding open_steps
  steps_none i zero j none lt = absurd (omega arith)
  steps_none i (suc n) j none lt =
      elim (cases_eq j n) [ inl is ↦ rw is (open_one_is (mark_at w i n) (omega arith)) | inr ne ↦ steps_none i n j (omega arith) (omega arith) ]

  steps_all : (i n : ℕ) → ((j : ℕ) → j < n → mark_at w i j ≡ open_mark → ⊥) → open_steps w i n ≡ 0
  unfolding open_steps
  steps_all i zero each = refl
  steps_all i (suc n) each =
      let before = steps_all i n (λ j lt. each j (omega arith)) in
      let here = none_open (mark_at w i n) (each n (omega arith)) in omega arith

  entries_none : (n i : ℕ) → open_entries m w n ≡ 0 → i < n → open_steps w i (steps_out m (row_at w i)) ≡ 0
  unfolding open_entries
  entries_none zero i none lt = absurd (omega arith)
  entries_none (suc n) i none lt =
      elim (cases_eq i n) [ inl is ↦ rw is (omega arith) | inr ne ↦ entries_none n i (omega arith) (omega arith) ]

  entries_all : (n : ℕ) → ((i : ℕ) → i < n → open_steps w i (steps_out m (row_at w i)) ≡ 0) → open_entries m w n ≡ 0
  unfolding open_entries
  entries_all zero each = refl
  entries_all (suc n) each =
      let before = entries_all n (λ i lt. each i (omega arith)) in
      let here = each n (omega arith) in omega arith

  -- every duty is settled
  abbrev pub Settled : Type 0
  Settled = (i j : ℕ) (d : Duty S) → duty_at m w i j ≡ Some d → duty_mark w i j ≡ open_mark → ⊥

  pub settled_from : open_duties m w ≡ 0 → Settled
  settled_from none i j d at = by d (names m w i j d at)
    where
      by : (d : Duty S) → Names m w i j d → duty_mark w i j ≡ open_mark → ⊥
      by d (opens is zero_is) = rw (eq-eqb i open_mark is) (open_one_is w.opening (omega arith))
      by d (leaves e move ne row step) =
          let lt = (row_parts w.rows w.live i e row).0 in
          let few : j < steps_out m (row_at w i) = rw row (nth_lt (moves_out m.cells e.cell) j move step) in
          rw (ne_eqb i open_mark ne) (steps_none i (steps_out m (row_at w i)) j (entries_none w.live i (omega arith) lt) few)

  pub settled_to : w.live ≤ most_entries → Settled → open_duties m w ≡ 0
  settled_to few all =
      let first = none_open w.opening (all open_mark 0 Opening refl) in
      let rest = entries_all w.live each in omega arith
    where
      mark : (i j : ℕ) (e : Entry S) → i < w.live → row_at w i ≡ Some e → j < length (moves_out m.cells e.cell) → mark_at w i j ≡ open_mark → ⊥
      mark i j e lt row below =
          let (move, step) = nth_some (moves_out m.cells e.cell) j below in
          let ne : i ≡ open_mark → ⊥ = λ is. absurd (omega arith) in
          rw (ne_eqb i open_mark ne) at (all i j (Leave e move) (named m w i j (Leave e move) (leaves e move ne row step)))

      steps : (i : ℕ) (o : Option (Entry S)) → i < w.live → row_at w i ≡ o → open_steps w i (steps_out m o) ≡ 0
      steps i None lt row = steps_all i 0 (λ j below. absurd (omega arith))
      steps i (Some e) lt row = steps_all i (length (moves_out m.cells e.cell)) (λ j below. mark i j e lt row below)

      each : (i : ℕ) → i < w.live → open_steps w i (steps_out m (row_at w i)) ≡ 0
      each i lt = steps i (row_at w i) lt refl

  pub final_none : none_final m w ≡ true → (i : ℕ) (e : Entry S) → row_at w i ≡ Some e → is_final m e.cell ≡ false
  final_none none i e row =
      let h = all_at w.live i (λ x. not (final_row m (row_at w x))) none (row_parts w.rows w.live i e row).0 in
      let at : final_row m (row_at w i) ≡ is_final m e.cell = rw row in sym at ∙ not-true _ h

  pub final_all : ((i : ℕ) (e : Entry S) → row_at w i ≡ Some e → is_final m e.cell ≡ false) → none_final m w ≡ true
  final_all each = all_every w.live (λ x. not (final_row m (row_at w x))) (λ i lt. not_from_false _ (by i (row_at w i) refl))
    where
      by : (i : ℕ) (o : Option (Entry S)) → row_at w i ≡ o → final_row m o ≡ false
      by i None row = refl
      by i (Some e) row = each i e row

duty_same : {S : Type 0} (m : Plan) {w v : World S} → Same w v → (i j : ℕ) → duty_at m v i j ≡ duty_at m w i j
duty_same m same i j =
    ap (λ (o : Option (Entry _)). cond (eqb i open_mark) (cond (eqb j 0) (Some Opening) None) (duty_of m o j)) (same_row same i)

module _ {S : Type 0} {holds : S → ℕ → Reading → Type 0} {k : Calls S} (m : Plan) where
  pub closed_same : {w v : World S} → Same w v → Closed holds k m w → Closed holds k m v
  closed_same {w} {v} same closed =
      record { duties = λ i j d at. taken d (closed.duties i j d (sym (duty_same m same i j) ∙ at)); none_final_is = λ i e row. closed.none_final_is i e (sym (same_row same i) ∙ row) }
    where
      taken : (d : Duty S) → TakenUp holds k m w d → TakenUp holds k m v d
      taken d t =
          (t.0, t.1, elim t.2 [ inl none ↦ inl none | inr by ↦ inr (by.0, by.1, same_row same by.0 ∙ by.2, by.3, by.4) ])

  -- what the kind said of a mark, in readings
  pub justified : Sound holds k → (w : World S) (d : Duty S) (t : ℕ) → Held k m w d t → Justified holds k m w d t
  justified sound w d t held =
      (held.0, held.1, elim held.2 [ inl none ↦ inl (none.0, sound.empty_true held.0 none.1) | inr by ↦ inr (by.0, by.1, by.2, sound.within_true held.0 by.0.set by.3) ])

  -- where all marks are settled, every duty is taken up
  pub closed_from : Sound holds k → (w : World S) → Orderly k m w → open_duties m w ≡ 0 → none_final m w ≡ true → Closed holds k m w
  closed_from sound w o none final =
      record { duties = λ i j d at. taken d (duty_mark w i j) (justified sound w d _ (o.kept i j d at (settled_from m w none i j d at))); none_final_is = final_none m w final }
    where
      taken : (d : Duty S) (t : ℕ) → Justified holds k m w d t → TakenUp holds k m w d
      taken d t by =
          (by.0, by.1, elim by.2 [ inl none ↦ inl none.1 | inr held ↦ inr (t, held.0, held.1, held.2, held.3) ])

  module _ (sure : Sure holds k) where
    -- a duty that is taken up can be settled
    found_some : (w : World S) (d : Duty S) → w.live ≤ most_entries → TakenUp holds k m w d → found_mark k w (duty_target m d) (duty_image k m d) ≡ open_mark → ⊥
    found_some w d few t =
        subst (λ (r : Result S Slip). found_mark k w (duty_target m d) r ≡ open_mark → ⊥) (sym t.1) (cond_both (k.empty t.0) empty_mark (holder_mark (lowest_holder k w t.0 (duty_target m d))) (λ (x : ℕ). x ≡ open_mark → ⊥) (λ is e. absurd (omega arith)) filled)
      where
        lowest : (h : ℕ) (e : Entry S) → row_at w h ≡ Some e → e.cell ≡ duty_target m d → k.within t.0 e.set ≡ true → (o : Option ℕ) → lowest_holder k w t.0 (duty_target m d) ≡ o → holder_mark o ≡ open_mark → ⊥
        lowest h e row on inside None is q =
            let test = all_at w.live h (λ x. not (can_hold k t.0 (duty_target m d) (row_at w x))) (all_from_none _ _ is) (row_parts w.rows w.live h e row).0 in
            let can : can_hold k t.0 (duty_target m d) (row_at w h) ≡ true = rw row (and_from _ _ (eq-eqb _ _ on) inside) in
            both_ways _ (not-true _ test) can
        lowest h e row on inside (Some x) is q =
            let lt = (lowest_holds k m w t.0 (duty_target m d) x is).0 in omega arith

        filled : k.empty t.0 ≡ false → holder_mark (lowest_holder k w t.0 (duty_target m d)) ≡ open_mark → ⊥
        filled some =
            elim t.2 [ inl none ↦ absurd (both_ways _ some (sure.empty_all t.0 none)) | inr by ↦ lowest by.0 by.1 by.2 by.3 (sure.within_all t.0 by.1.set by.4) (lowest_holder k w t.0 (duty_target m d)) refl ]

    swept_same : (w : World S) (o : Option (Duty S)) (t : ℕ) → (t ≡ open_mark → ⊥) → swept_mark k m w o t ≡ t
    swept_same w None t ne = refl
    swept_same w (Some d) t ne = rw (ne_eqb t open_mark ne)

    -- a settled duty stays settled
    duty_stays : (i j x y : ℕ) (w : World S) → (duty_mark w x y ≡ open_mark → ⊥) → duty_mark (duty_swept k m i j w) x y ≡ open_mark → ⊥
    duty_stays i j x y w ne q =
        elim (mark_cases w i j (swept_mark k m w (duty_at m w i j) (duty_mark w i j)) x y) [ inl same ↦ ne (sym same ∙ q) | inr new ↦ ne (same_mark w i j x y new.0 ∙ sym (swept_same w (duty_at m w i j) (duty_mark w i j) (λ is. ne (same_mark w i j x y new.0 ∙ is))) ∙ sym new.1 ∙ q) ]

    duty_settles : (i j : ℕ) (w : World S) (d : Duty S) → w.live ≤ most_entries → Closed holds k m w → duty_at m w i j ≡ Some d → (i ≡ open_mark) ⊎ (mark_place i j < length w.marks) → duty_mark (duty_swept k m i j w) i j ≡ open_mark → ⊥
    duty_settles i j w d few closed at there q =
        cond_both (eqb t open_mark) (found_mark k w (duty_target m d) (duty_image k m d)) t (λ (x : ℕ). x ≡ open_mark → ⊥) (λ is. found_some w d few (closed.duties i j d at)) (λ is. eqb-false t open_mark is) (ap (λ (o : Option (Duty S)). swept_mark k m w o t) (sym at) ∙ sym (mark_written w i j (swept_mark k m w (duty_at m w i j) t) there) ∙ q)
      where
        t : ℕ
        t = duty_mark w i j

    steps_stay : (i n x y : ℕ) (w : World S) → (duty_mark w x y ≡ open_mark → ⊥) → duty_mark (steps_swept k m i n w) x y ≡ open_mark → ⊥
    unfolding steps_swept
    steps_stay i zero x y w ne = ne
    steps_stay i (suc n) x y w ne = duty_stays i n x y (steps_swept k m i n w) (steps_stay i n x y w ne)

    entries_stay : (n x y : ℕ) (w : World S) → (duty_mark w x y ≡ open_mark → ⊥) → duty_mark (entries_swept k m n w) x y ≡ open_mark → ⊥
    unfolding entries_swept
    entries_stay zero x y w ne = ne
    entries_stay (suc n) x y w ne =
        steps_stay n (steps_out m (row_at w n)) x y (entries_swept k m n w) (entries_stay n x y w ne)

    module _ (ok : Accepted m) where
      steps_settle : (i n j : ℕ) (w : World S) (d : Duty S) → Orderly k m w → Closed holds k m w → j < n → (i ≡ open_mark → ⊥) → duty_at m w i j ≡ Some d → duty_mark (steps_swept k m i n w) i j ≡ open_mark → ⊥
      unfolding steps_swept
      steps_settle i zero j w d o closed lt ne at = absurd (omega arith)
      steps_settle i (suc n) j w d o closed lt ne at =
          elim (cases_eq j n) [ inl is ↦ subst (λ (y : ℕ). duty_mark (duty_swept k m i n (steps_swept k m i n w)) i y ≡ open_mark → ⊥) (sym is) (last (subst (λ (y : ℕ). duty_at m w i y ≡ Some d) is at)) | inr other ↦ duty_stays i n i j (steps_swept k m i n w) (steps_settle i n j w d o closed (omega arith) ne at) ]
        where
          same : Same w (steps_swept k m i n w)
          same = same_steps k m i n w

          place : (d : Duty S) → Names m w i n d → mark_place i n < length w.marks
          place d (opens is zero_is) = absurd (ne is)
          place d (leaves e move ne row step) =
              let few = step_few k m ok e.cell n move (o.known i e row) step in
              let lt = (row_parts w.rows w.live i e row).0 in
              let room = o.roomy in omega arith

          last : duty_at m w i n ≡ Some d → duty_mark (duty_swept k m i n (steps_swept k m i n w)) i n ≡ open_mark → ⊥
          last at = duty_settles i n (steps_swept k m i n w) d (rw same.live o.few) (closed_same same closed) (duty_same m same i n ∙ at) (inr (rw same.long (place d (names m w i n d at))))

      entries_settle : (n i j : ℕ) (w : World S) (d : Duty S) → Orderly k m w → Closed holds k m w → i < n → n ≤ most_entries → duty_at m w i j ≡ Some d → duty_mark (entries_swept k m n w) i j ≡ open_mark → ⊥
      unfolding entries_swept
      entries_settle zero i j w d o closed lt le at = absurd (omega arith)
      entries_settle (suc n) i j w d o closed lt le at =
          elim (cases_eq i n) [ inl is ↦ subst (λ (x : ℕ). duty_mark (steps_swept k m n (steps_out m (row_at w n)) (entries_swept k m n w)) x j ≡ open_mark → ⊥) (sym is) (last (subst (λ (x : ℕ). duty_at m w x j ≡ Some d) is at)) | inr other ↦ steps_stay n (steps_out m (row_at w n)) i j (entries_swept k m n w) (entries_settle n i j w d o closed (omega arith) (omega arith) at) ]
        where
          same : Same w (entries_swept k m n w)
          same = same_entries k m n w

          few : (d : Duty S) → Names m w n j d → j < steps_out m (row_at w n)
          few d (opens is zero_is) = absurd (omega arith)
          few d (leaves e move ne row step) = rw row (nth_lt (moves_out m.cells e.cell) j move step)

          last : duty_at m w n j ≡ Some d → duty_mark (steps_swept k m n (steps_out m (row_at w n)) (entries_swept k m n w)) n j ≡ open_mark → ⊥
          last at =
              steps_settle n (steps_out m (row_at w n)) j (entries_swept k m n w) d (orderly_entries k m ok n w o) (closed_same same closed) (few d (names m w n j d at)) (λ is. absurd (omega arith)) (duty_same m same n j ∙ at)

      -- a sweep settles every duty
      pub swept_settled : (w : World S) → Orderly k m w → Closed holds k m w → Settled m (swept_world k m w)
      swept_settled w o closed i j d at = by d (names m w i j d (sym (duty_same m (same_swept k m w) i j) ∙ at))
        where
          same : Same w (duty_swept k m open_mark 0 w)
          same = same_marked w open_mark 0 (swept_mark k m w (duty_at m w open_mark 0) (duty_mark w open_mark 0))

          by : (d : Duty S) → Names m w i j d → duty_mark (swept_world k m w) i j ≡ open_mark → ⊥
          by d (opens is zero_is) =
              rw (is, zero_is) (entries_stay w.live open_mark 0 (duty_swept k m open_mark 0 w) (duty_settles open_mark 0 w Opening o.few closed refl (inl refl)))
          by d (leaves e move ne row step) =
              entries_settle w.live i j (duty_swept k m open_mark 0 w) (Leave e move) (orderly_duty k m ok open_mark 0 w o) (closed_same same closed) (row_parts w.rows w.live i e row).0 o.few (duty_same m same i j ∙ named m w i j (Leave e move) (leaves e move ne row step))
