-- Each refusal comes exactly for its reason.
use Rattle.std.proofs.Common.{◌≡◌, ℕ, ◌≤◌, Bool, true, false, cond, ◌&&◌, eqb, ltb, leb, ◌↔◌, length, Some, None, Ok, Err, Option, Result, refl, ap, ◌∙◌, subst, arith}
use Rattle.std.proofs.lemmas.Bool.{eqb-true, eqb-false, eq-eqb, ne_eqb, leb-true, leb-false, le-leb, lt-leb, ltb-true, ltb-false, lt-ltb, le-ltb, and_parts, and_from, both_ways}
use Rattle.slip.specs.declared.Refusal.TheVariants.{DocketFull, Unknown, EmptySet, OtherCell, NotHeld, BadScale, NoConfiguration}
use Rattle.slip.specs.declared.Slip.{Slip}
use Rattle.clocks.specs.Readings.{Reading, zero_reading}
use Rattle.model.specs.Cells.{cell_at}
use Rattle.model.specs.Plans.{Plan}
use Rattle.model.specs.Runs.{Meets}
use Rattle.trail.specs.Calls.{slip_at, landing, opening, outcome}
use Rattle.trail.specs.Tests.{meets}
use Rattle.trail.proofs.Meeting.{meets_true, meets_all}
use Rattle.clockset.specs.Calls.{Calls}
use Rattle.clockset.specs.Laws.{Sound, Sure, Inside, Vacant}
use Rattle.docket_theory.specs.declared.Duty.{Duty}
use Rattle.docket_theory.specs.declared.Entry.{Entry}
use Rattle.docket_theory.specs.Docket.{slip, unless, lodge_after, lodged, strike_after, struck, settled, settle_fault, duty_fault, claim_fault, holder_fault, held_fault, claim_mark, marked, duty_at}
use Rattle.docket_theory.specs.Images.{duty_image, duty_target}
use Rattle.docket_theory.specs.Log.{set_out_call}
use Rattle.docket_theory.specs.Promise.{LodgeSays, full, no_cell, no_reading, appended, StrikeSays, nothing, taken_off, SetOutSays, bad_scale, no_configuration, opened, ClaimSays, no_holder, other_cell, no_image, not_within, held, no_empty_image, not_empty, empty, SettleSays, no_duty, duty}
use Rattle.docket_theory.specs.Worlds.{World, capacity, row_at}

-- a call says what the relation has for it, and the relation has one answer
exactly : {R : Type 0} (P : R → Type 0) (r : R) → P r → ((x : R) → P x → r ≡ x) → (x : R) → (r ≡ x) ↔ P x
exactly P r here one x = ((λ is. subst P is here), one x)

-- the answer of a call that is refused by a slip, if there is one
abbrev says : Option Slip → Result (Unit {0}) Slip
says None = Ok tt
says (Some e) = Err e

unless_says : {S : Type 0} (o : Option Slip) (after w : World S) → (unless {A = Unit {0}} o tt after w).0 ≡ says o
unless_says None after w = refl
unless_says (Some e) after w = refl

module _ {S : Type 0} (holds : S → ℕ → Reading → Type 0) (k : Calls S) (m : Plan) (w : World S) where
  module _ (sound : Sound holds k) (sure : Sure holds k) where
    vacant_empty : (a : S) → Vacant holds a → k.empty a ≡ true
    vacant_empty a = sure.empty_all a

    filled_empty : (a : S) → (Vacant holds a → ⊥) → k.empty a ≡ false
    filled_empty a some = by (k.empty a) refl
      where
        by : (b : Bool) → k.empty a ≡ b → b ≡ false
        by true is = absurd (some (sound.empty_true a is))
        by false is = refl

    pub lodge_says : (cell : ℕ) (a : S) (r : Result ℕ Slip) → ((lodged k m cell a w).0 ≡ r) ↔ LodgeSays holds k m w cell a r
    lodge_says cell a = exactly (LodgeSays holds k m w cell a) _ (by (leb (capacity w) w.live) (ltb cell (length m.cells)) (k.empty a) refl refl refl) one
      where
        by : (b c d : Bool) → leb (capacity w) w.live ≡ b → ltb cell (length m.cells) ≡ c → k.empty a ≡ d → LodgeSays holds k m w cell a (unless (cond b (Some (slip DocketFull w.live)) (cond c (cond d (Some (slip EmptySet w.live)) None) (Some (slip Unknown w.live)))) w.live (lodge_after cell a w) w).0
        by true c d p q r = full (leb-true _ _ p)
        by false false d p q r = no_cell (leb-false _ _ p) (ltb-false _ _ q)
        by false true true p q r = no_reading (leb-false _ _ p) (ltb-true _ _ q) (sound.empty_true a r)
        by false true false p q r = appended (leb-false _ _ p) (ltb-true _ _ q) (λ none. both_ways _ r (vacant_empty a none))

        one : (x : Result ℕ Slip) → LodgeSays holds k m w cell a x → (lodged k m cell a w).0 ≡ x
        one x (full le) = rw (le-leb _ _ le)
        one x (no_cell lt le) = rw (lt-leb _ _ lt, le-ltb _ _ le)
        one x (no_reading lt here none) = rw (lt-leb _ _ lt, lt-ltb _ _ here, vacant_empty a none)
        one x (appended lt here some) = rw (lt-leb _ _ lt, lt-ltb _ _ here, filled_empty a some)

    inside_within : (a b : S) (x : Bool) → k.within a b ≡ x → (Inside holds a b → ⊥) → x ≡ false
    inside_within a b true is out = absurd (out (sound.within_true a b is))
    inside_within a b false is out = refl

    module _ (i : ℕ) (d : Duty S) where
      claim_here : (claim : Option ℕ) → ClaimSays holds k m w i d claim (says (claim_fault k m w i d claim))
      claim_here None = by (duty_image k m d) refl
        where
          tested : (a : S) (b : Bool) → duty_image k m d ≡ Ok a → k.empty a ≡ b → ClaimSays holds k m w i d None (says (cond b None (Some (slip NotHeld i))))
          tested a true im is = empty a im (sound.empty_true a is)
          tested a false im is = not_empty a im (λ none. both_ways _ is (vacant_empty a none))

          by : (r : Result S Slip) → duty_image k m d ≡ r → ClaimSays holds k m w i d None (says (held_fault i k.empty r))
          by (Err x) im = no_empty_image x im
          by (Ok a) im = tested a (k.empty a) im refl
      claim_here (Some h) = row (row_at w h) refl
        where
          tested : (e : Entry S) (a : S) (b : Bool) → row_at w h ≡ Some e → e.cell ≡ duty_target m d → duty_image k m d ≡ Ok a → k.within a e.set ≡ b → ClaimSays holds k m w i d (Some h) (says (cond b None (Some (slip NotHeld i))))
          tested e a true at on im is = held h e a at on im (sound.within_true a e.set is)
          tested e a false at on im is = not_within h e a at on im (λ inside. both_ways _ is (sure.within_all a e.set inside))

          came : (e : Entry S) (r : Result S Slip) → row_at w h ≡ Some e → e.cell ≡ duty_target m d → duty_image k m d ≡ r → ClaimSays holds k m w i d (Some h) (says (held_fault i (λ a. k.within a e.set) r))
          came e (Err x) at on im = no_image h e x at on im
          came e (Ok a) at on im = tested e a (k.within a e.set) at on im refl

          on_cell : (e : Entry S) (b : Bool) → row_at w h ≡ Some e → eqb e.cell (duty_target m d) ≡ b → ClaimSays holds k m w i d (Some h) (says (cond b (held_fault i (λ a. k.within a e.set) (duty_image k m d)) (Some (slip OtherCell i))))
          on_cell e true at is = came e (duty_image k m d) at (eqb-true _ _ is) refl
          on_cell e false at is = other_cell h e at (eqb-false _ _ is)

          row : (o : Option (Entry S)) → row_at w h ≡ o → ClaimSays holds k m w i d (Some h) (says (holder_fault k m i d o))
          row None at = no_holder h at
          row (Some e) at = on_cell e (eqb e.cell (duty_target m d)) at refl

      claim_one : (claim : Option ℕ) (x : Result (Unit {0}) Slip) → ClaimSays holds k m w i d claim x → says (claim_fault k m w i d claim) ≡ x
      claim_one claim x (no_holder h at) = rw at
      claim_one claim x (other_cell h e at off) = rw (at, ne_eqb _ _ off)
      claim_one claim x (no_image h e y at on im) = rw (at, eq-eqb _ _ on, im)
      claim_one claim x (not_within h e a at on im out) =
          rw (at, eq-eqb _ _ on, im, inside_within a e.set (k.within a e.set) refl out)
      claim_one claim x (held h e a at on im inside) = rw (at, eq-eqb _ _ on, im, sure.within_all a e.set inside)
      claim_one claim x (no_empty_image y im) = rw im
      claim_one claim x (not_empty a im some) = rw (im, filled_empty a some)
      claim_one claim x (empty a im none) = rw (im, vacant_empty a none)

    pub settle_says : (i j : ℕ) (claim : Option ℕ) (r : Result (Unit {0}) Slip) → ((settled k m i j claim w).0 ≡ r) ↔ SettleSays holds k m w i j claim r
    settle_says i j claim =
        exactly (SettleSays holds k m w i j claim) _ (rw (unless_says (settle_fault k m i j claim w) (marked i j (claim_mark claim) w) w) (by (duty_at m w i j) refl)) (λ x h. unless_says (settle_fault k m i j claim w) (marked i j (claim_mark claim) w) w ∙ one x h)
      where
        by : (o : Option (Duty S)) → duty_at m w i j ≡ o → SettleSays holds k m w i j claim (says (duty_fault k m w i o claim))
        by None at = no_duty at
        by (Some d) at = duty d (says (claim_fault k m w i d claim)) at (claim_here i d claim)

        one : (x : Result (Unit {0}) Slip) → SettleSays holds k m w i j claim x → says (settle_fault k m i j claim w) ≡ x
        one x (no_duty at) = ap (λ (o : Option (Duty S)). says (duty_fault k m w i o claim)) at
        one x (duty d r at claims) = ap (λ (o : Option (Duty S)). says (duty_fault k m w i o claim)) at ∙ claim_one i d claim x claims

  pub strike_says : (r : Result (Unit {0}) Slip) → ((struck w).0 ≡ r) ↔ StrikeSays holds k m w r
  strike_says = exactly (StrikeSays holds k m w) _ (by (eqb w.live 0) refl) one
    where
      by : (b : Bool) → eqb w.live 0 ≡ b → StrikeSays holds k m w (unless {A = Unit {0}} (cond b (Some (slip Unknown 0)) None) tt (strike_after w) w).0
      by true is = nothing (eqb-true _ _ is)
      by false is = taken_off (let ne = eqb-false w.live 0 is in omega arith)

      one : (x : Result (Unit {0}) Slip) → StrikeSays holds k m w x → (struck w).0 ≡ x
      one x (nothing is) = rw (eq-eqb _ _ is)
      one x (taken_off lt) = rw (ne_eqb w.live 0 (λ is. absurd (omega arith)))

  pub set_out_says : (s : ℕ) (r : Result (Unit {0}) Slip) → ((set_out_call m s w).0 ≡ r) ↔ SetOutSays holds k m w s r
  set_out_says s = exactly (SetOutSays holds k m w s) _ (by (leb 1 s && leb s 1000) refl) one
    where
      landed : (b : Bool) → meets (cell_at m.cells m.first) s zero_reading ≡ b → (leb 1 s && leb s 1000) ≡ true → SetOutSays holds k m w s (outcome (cond b (Ok (opening m s)) (Err (slip_at NoConfiguration w.trail))) w.trail).0
      landed true is range =
          let p = and_parts (leb 1 s) (leb s 1000) range in opened (leb-true _ _ p.0) (leb-true _ _ p.1) (meets_true _ _ _ is)
      landed false is range =
          let p = and_parts (leb 1 s) (leb s 1000) range in
          no_configuration (leb-true _ _ p.0) (leb-true _ _ p.1) (λ h. both_ways _ is (meets_all _ _ _ h))

      by : (b : Bool) → (leb 1 s && leb s 1000) ≡ b → SetOutSays holds k m w s (outcome (cond b (landing m (opening m s) w.trail) (Err (slip_at BadScale w.trail))) w.trail).0
      by true is = landed (meets (cell_at m.cells m.first) s zero_reading) refl is
      by false is = bad_scale (λ p. both_ways _ is (and_from _ _ (le-leb _ _ p.0) (le-leb _ _ p.1)))

      outside : (b : Bool) → (leb 1 s && leb s 1000) ≡ b → ((1 ≤ s) × (s ≤ 1000) → ⊥) → b ≡ false
      outside true is out = let p = and_parts (leb 1 s) (leb s 1000) is in absurd (out (leb-true _ _ p.0, leb-true _ _ p.1))
      outside false is out = refl

      misses : (b : Bool) → meets (cell_at m.cells m.first) s zero_reading ≡ b → (Meets (cell_at m.cells m.first) s zero_reading → ⊥) → b ≡ false
      misses true is out = absurd (out (meets_true _ _ _ is))
      misses false is out = refl

      one : (x : Result (Unit {0}) Slip) → SetOutSays holds k m w s x → (set_out_call m s w).0 ≡ x
      one x (bad_scale out) = rw (outside (leb 1 s && leb s 1000) refl out)
      one x (no_configuration low high out) = rw (and_from (leb 1 s) (leb s 1000) (le-leb _ _ low) (le-leb _ _ high), misses (meets (cell_at m.cells m.first) s zero_reading) refl out)
      one x (opened low high h) = rw (and_from (leb 1 s) (leb s 1000) (le-leb _ _ low) (le-leb _ _ high), meets_all (cell_at m.cells m.first) s zero_reading h)
