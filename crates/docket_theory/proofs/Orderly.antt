-- What holds of a docket's tables after every list of calls: there is room for the live entries, their cells are cells of the model,
-- and every mark is justified.
use Rattle.std.proofs.Common.{◌≡◌, ℕ, zero, suc, ◌-◌, ◌*◌, ◌<◌, ◌≤◌, List, length, Some, None, sym, refl, ◌∙◌, arith}
use Rattle.std.proofs.lemmas.List.{length-set, length-map}
use Rattle.model.specs.Plans.{Plan, Accepted}
use Rattle.trail.specs.declared.position.Trail.{Trail}
use Rattle.clockset.specs.Calls.{Calls}
use Rattle.docket_theory.specs.declared.Entry.{Entry}
use Rattle.docket_theory.specs.Docket.{entry_opened, forget, lodge_fault, lodge_after, strike_fault, strike_after, settle_fault, claim_mark, duty_mark, marked, duty_swept, steps_swept, steps_out, entries_swept, swept_world}
use Rattle.docket_theory.specs.Log.{Call, lodge, strike, settle, sweep, set_out, wait, start, finish, verdict, Log, Logged, begun, called, perform}
use Rattle.docket_theory.specs.Worlds.{World, fresh, open_mark, steps_per_entry, most_entries, row_at}
use Rattle.docket_theory.proofs.Keeping.{Kept, Known, kept_unless, kept_settle, kept_duty, lodge_none, known_lodge, kept_lodge, strike_row, kept_strike}
use Rattle.docket_theory.proofs.Marks.{opened_length, marked_any}
use Rattle.docket_theory.proofs.Rows.{row_parts, Names, opens, leaves, names}

-- only the marks differ
pub record Same {S : Type 0} (w v : World S) : Type 0 where
  pub rows : v.rows ≡ w.rows
  pub live : v.live ≡ w.live
  pub trail : v.trail ≡ w.trail
  pub long : length v.marks ≡ length w.marks

same_then : {S : Type 0} {u v w : World S} → Same u v → Same v w → Same u w
same_then p q =
    record { rows = q.rows ∙ p.rows; live = q.live ∙ p.live; trail = q.trail ∙ p.trail; long = q.long ∙ p.long }

pub same_back : {S : Type 0} {w v : World S} → Same w v → Same v w
same_back same =
    record { rows = sym same.rows; live = sym same.live; trail = sym same.trail; long = sym same.long }

pub same_marked : {S : Type 0} (w : World S) (i j t : ℕ) → Same w (marked i j t w)
same_marked w i j t =
    marked_any w (Same w) i j t (λ marks o len. record { rows = refl; live = refl; trail = refl; long = len })

pub same_row : {S : Type 0} {w v : World S} → Same w v → (i : ℕ) → row_at v i ≡ row_at w i
same_row p i = rw (p.rows, p.live)

module _ {S : Type 0} (k : Calls S) (m : Plan) where
  pub same_steps : (i n : ℕ) (w : World S) → Same w (steps_swept k m i n w)
  unfolding steps_swept
  same_steps i zero w = record { rows = refl; live = refl; trail = refl; long = refl }
  same_steps i (suc n) w = same_then (same_steps i n w) (same_marked (steps_swept k m i n w) i n _)

  pub same_entries : (n : ℕ) (w : World S) → Same w (entries_swept k m n w)
  unfolding entries_swept
  same_entries zero w = record { rows = refl; live = refl; trail = refl; long = refl }
  same_entries (suc n) w = same_then (same_entries n w) (same_steps n (steps_out m (row_at w n)) (entries_swept k m n w))

  pub same_swept : (w : World S) → Same w (swept_world k m w)
  same_swept w = same_then (same_marked w open_mark 0 _) (same_entries w.live (duty_swept k m open_mark 0 w))

  pub record Orderly (w : World S) : Type 0 where
    pub few : w.live ≤ most_entries
    pub rowed : w.live ≤ length w.rows
    pub roomy : w.live * steps_per_entry ≤ length w.marks
    pub known : Known k m w
    pub kept : Kept k m w

  module _ (ok : Accepted m) where
    -- the marks are written anew, and justified
    orderly_marks : (w v : World S) → Same w v → Kept k m v → Orderly w → Orderly v
    orderly_marks w v same kept o =
        record { few = rw same.live o.few; rowed = rw (same.live, same.rows) o.rowed; roomy = rw (same.live, same.long) o.roomy; known = λ i e row. o.known i e (sym (same_row same i) ∙ row); kept = kept }

    pub orderly_duty : (i j : ℕ) (w : World S) → Orderly w → Orderly (duty_swept k m i j w)
    orderly_duty i j w o = orderly_marks w (duty_swept k m i j w) (same_marked w i j _) (kept_duty k m ok w o.known i j o.kept) o

    pub orderly_steps : (i n : ℕ) (w : World S) → Orderly w → Orderly (steps_swept k m i n w)
    unfolding steps_swept
    orderly_steps i zero w o = o
    orderly_steps i (suc n) w o = orderly_duty i n (steps_swept k m i n w) (orderly_steps i n w o)

    pub orderly_entries : (n : ℕ) (w : World S) → Orderly w → Orderly (entries_swept k m n w)
    unfolding entries_swept
    orderly_entries zero w o = o
    orderly_entries (suc n) w o = orderly_steps n (steps_out m (row_at w n)) (entries_swept k m n w) (orderly_entries n w o)

    pub orderly_swept : (w : World S) → Orderly w → Orderly (swept_world k m w)
    orderly_swept w o = orderly_entries w.live (duty_swept k m open_mark 0 w) (orderly_duty open_mark 0 w o)

    orderly_lodge : (cell : ℕ) (a : S) (w : World S) → Orderly w → lodge_fault k m cell a w ≡ None → Orderly (lodge_after cell a w)
    orderly_lodge cell a w o none =
        let (lt, here, filled) = lodge_none k m cell a w none in
        let rows = length-set w.rows w.live (record { cell = cell; set = a }) in
        let marks = opened_length w.marks (w.live * steps_per_entry) steps_per_entry in
        let room : w.live < length w.rows = omega arith in
        record { few = omega arith; rowed = omega arith; roomy = omega arith; known = known_lodge k m cell a w room here o.known; kept = kept_lodge k m cell a w room ok here o.kept }

    orderly_strike : (w : World S) → Orderly w → Orderly (strike_after w)
    orderly_strike w o =
        let marks = opened_length w.marks ((w.live - 1) * steps_per_entry) steps_per_entry in
        let long = length-map (entry_opened w.marks (w.live - 1)) (forget (w.live - 1)) in
        record { few = omega (arith, o.few); rowed = omega (arith, o.rowed); roomy = omega (arith, o.roomy); known = λ i e row. o.known i e (strike_row k m w i e row); kept = kept_strike k m w o.kept }

    orderly_trail : (w : World S) (t : Trail) → Orderly w → Orderly (record { rows = w.rows; marks = w.marks; live = w.live; opening = w.opening; trail = t })
    orderly_trail w t o =
        record { few = o.few; rowed = o.rowed; roomy = o.roomy; known = o.known; kept = o.kept }

    orderly_call : (c : Call S) (w : World S) → Orderly w → Orderly (perform k m c w).1
    orderly_call (lodge cell a) w o = kept_unless Orderly (lodge_fault k m cell a w) _ _ w o (orderly_lodge cell a w o)
    orderly_call strike w o = kept_unless Orderly (strike_fault w) _ _ w o (λ none. orderly_strike w o)
    orderly_call (settle i j claim) w o =
        kept_unless Orderly (settle_fault k m i j claim w) _ _ w o (λ none. orderly_marks w _ (same_marked w i j (claim_mark claim)) (kept_settle k m ok w o.known i j claim none o.kept) o)
    orderly_call sweep w o = orderly_swept w o
    orderly_call (set_out s) w o = orderly_trail w _ o
    orderly_call (wait n) w o = orderly_trail w _ o
    orderly_call (start d e) w o = orderly_trail w _ o
    orderly_call (finish e) w o = orderly_trail w _ o
    orderly_call verdict w o = o

    orderly_fresh : (rows : List (Entry S)) (marks : List ℕ) → Orderly (fresh rows marks)
    orderly_fresh rows marks =
        record { few = omega arith; rowed = omega arith; roomy = omega arith; known = λ i e row. absurd (empty i e row); kept = λ i j d at settled. absurd (open_all i j d (names m (fresh rows marks) i j d at) settled) }
      where
        empty : (i : ℕ) (e : Entry S) → row_at (fresh rows marks) i ≡ Some e → ⊥
        empty i e row = let r = row_parts rows 0 i e row in omega (arith, r.0)

        open_all : (i j : ℕ) (d : _) → Names m (fresh rows marks) i j d → (duty_mark (fresh rows marks) i j ≡ open_mark → ⊥) → ⊥
        open_all i j d (opens is zero_is) settled = settled (rw is)
        open_all i j d (leaves e move ne row step) settled = empty i e row

    pub orderly : {log : Log S} {w : World S} → Logged k m log w → Orderly w
    orderly (begun rows marks) = orderly_fresh rows marks
    orderly (called c before) = orderly_call c _ (orderly before)
