-- The live entries are what lodge accepted and no strike has taken off since.
use Rattle.std.proofs.Common.{◌≡◌, ℕ, zero, suc, ◌-◌, ◌<◌, ◌≤◌, Bool, true, false, cond, List, [], ◌∷◌, ◌++◌, length, take, Some, None, Option, sym, refl, ap, ◌∙◌, inl, inr, arith}
use Rattle.std.proofs.lemmas.Option.{slice_get_past}
use Rattle.std.proofs.lemmas.Bool.{cases_lt, lt-ltb, le-ltb}
use Rattle.std.specs.List.{slice_get}
use Rattle.std.proofs.lemmas.List.{take_more_set, take-take, length-take, length-take-le}
use Rattle.slip.specs.declared.Slip.{Slip}
use Rattle.model.specs.Plans.{Plan, Accepted}
use Rattle.clockset.specs.Calls.{Calls}
use Rattle.docket_theory.specs.declared.Entry.{Entry}
use Rattle.docket_theory.specs.Docket.{unless, lodge_fault, lodge_after, strike_fault, strike_after, settle_fault, claim_mark, marked}
use Rattle.docket_theory.specs.Log.{Call, lodge, strike, settle, sweep, set_out, wait, start, finish, verdict, Log, Logged, begun, called, perform, accepted, numbered_or, done_or, entries_by, entries_of}
use Rattle.docket_theory.specs.Promise.{live_entries}
use Rattle.docket_theory.specs.Worlds.{World, row_in}
use Rattle.docket_theory.proofs.Keeping.{kept_unless, lodge_none}
use Rattle.docket_theory.proofs.Orderly.{Same, same_marked, same_swept, Orderly, orderly}

same_entries : {S : Type 0} {w v : World S} → Same w v → live_entries v ≡ live_entries w
same_entries same = rw (same.live, same.rows)

-- a call that leaves both as they were
entries_stay : {S : Type 0} (b : Bool) (es : List (Entry S)) (w v : World S) → live_entries v ≡ live_entries w → live_entries w ≡ es → live_entries v ≡ cond b es es
entries_stay true es w v is h = is ∙ h
entries_stay false es w v is h = is ∙ h

nth_front : {X : Type 0} (xs : List X) (n i : ℕ) → i < n → slice_get xs i ≡ slice_get (take n xs) i
nth_front xs zero i lt = absurd (omega arith)
nth_front [] (suc n) i lt = refl
nth_front (x ∷ xs) (suc n) zero lt = refl
nth_front (x ∷ xs) (suc n) (suc i) lt = nth_front xs n i (omega arith)

-- the live row i is the i-th live entry
pub row_numbered : {S : Type 0} (rows : List (Entry S)) (n i : ℕ) → row_in rows n i ≡ slice_get (take n rows) i
row_numbered rows n i =
    elim (cases_lt i n) [ inl lt ↦ rw (lt-ltb i n lt) (nth_front rows n i lt) | inr le ↦ rw (le-ltb i n le) (sym (slice_get_past (take n rows) i (omega (arith, length-take n rows)))) ]

module _ {S : Type 0} (k : Calls S) (m : Plan) where
  lodge_appends : (cell : ℕ) (a : S) (w : World S) (es : List (Entry S)) (o : Option Slip) → live_entries w ≡ es → (o ≡ None → w.live < length w.rows) → live_entries (unless o w.live (lodge_after cell a w) w).1 ≡ cond (accepted (numbered_or (unless o w.live (lodge_after cell a w) w).0)) (es ++ record { cell = cell; set = a } ∷ []) es
  lodge_appends cell a w es (Some e) h room = h
  lodge_appends cell a w es None h room =
      take_more_set w.rows w.live (record { cell = cell; set = a }) (room refl) ∙ ap (λ (xs : List (Entry S)). xs ++ record { cell = cell; set = a } ∷ []) h

  strike_takes : (w : World S) (es : List (Entry S)) (o : Option Slip) → live_entries w ≡ es → w.live ≤ length w.rows → live_entries (unless {A = Unit {0}} o tt (strike_after w) w).1 ≡ cond (accepted (done_or (unless {A = Unit {0}} o tt (strike_after w) w).0)) (take (length es - 1) es) es
  strike_takes w es (Some e) h room = h
  strike_takes w es None h room =
      let long : length (take w.live w.rows) ≡ w.live = length-take-le w.live w.rows room in
      rw (← h, long) (sym (take-take (w.live - 1) w.live w.rows (omega arith)))

  entries_call : (c : Call S) (w : World S) (es : List (Entry S)) → Orderly k m w → live_entries w ≡ es → live_entries (perform k m c w).1 ≡ cond (accepted (perform k m c w).0) (entries_by c es) es
  entries_call (lodge cell a) w es o h =
      lodge_appends cell a w es (lodge_fault k m cell a w) h (λ none. let lt = (lodge_none k m cell a w none).0 in omega arith)
  entries_call strike w es o h = strike_takes w es (strike_fault w) h o.rowed
  entries_call (settle i j claim) w es o h =
      entries_stay (accepted (perform k m (settle i j claim) w).0) es w (perform k m (settle i j claim) w).1 (kept_unless (λ (v : World S). live_entries v ≡ live_entries w) (settle_fault k m i j claim w) tt (marked i j (claim_mark claim) w) w refl (λ none. same_entries (same_marked w i j (claim_mark claim)))) h
  entries_call sweep w es o h = same_entries (same_swept k m w) ∙ h
  entries_call (set_out s) w es o h = entries_stay (accepted (perform k m (set_out s) w).0) es w (perform k m (set_out s) w).1 refl h
  entries_call (wait n) w es o h = entries_stay (accepted (perform k m (wait n) w).0) es w (perform k m (wait n) w).1 refl h
  entries_call (start d e) w es o h = entries_stay (accepted (perform k m (start d e) w).0) es w (perform k m (start d e) w).1 refl h
  entries_call (finish e) w es o h = entries_stay (accepted (perform k m (finish e) w).0) es w (perform k m (finish e) w).1 refl h
  entries_call verdict w es o h = h

  pub entries_are : Accepted m → {log : Log S} {w : World S} → Logged k m log w → live_entries w ≡ entries_of log
  entries_are ok (begun rows marks) = refl
  entries_are ok (called {log = log} {w = w} c before) =
      entries_call c w (entries_of log) (orderly k m ok before) (entries_are ok before)

  pub entries_number : (w : World S) (es : List (Entry S)) → Orderly k m w → live_entries w ≡ es → w.live ≡ length es
  entries_number w es o h = sym (length-take-le w.live w.rows o.rowed) ∙ ap length h
