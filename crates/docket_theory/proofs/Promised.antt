-- The promise, put together from its parts.
use Rattle.std.proofs.Common.{◌≡◌, ℕ, Bool, true, false, cond, eqb, ◌↔◌, List, ◌∷◌, Option, sym, refl, ap, ◌∙◌, subst, arith}
use Rattle.std.proofs.lemmas.Bool.{eqb-true, eq-eqb, and_parts, and_from, both_ways}
use Rattle.std.specs.List.{slice_get}
use Rattle.clocks.specs.Readings.{Reading}
use Rattle.model.specs.Plans.{Plan, Accepted}
use Rattle.trail.specs.declared.position.Position.{Position}
use Rattle.clockset.specs.Calls.{Calls}
use Rattle.clockset.specs.Laws.{Sound, Sure}
use Rattle.docket_theory.specs.declared.Entry.{Entry}
use Rattle.docket_theory.specs.declared.Verdict.TheVariants.{Reached, Shut, Undecided}
use Rattle.docket_theory.specs.Docket.{duty_mark, final_position, open_duties, none_final, is_shut, verdict_of, swept_world}
use Rattle.docket_theory.specs.Log.{Call, called, perform, Walk, walk_of, Worked}
use Rattle.docket_theory.specs.Promise.{Unreachable, Walked, Closed, Stands}
use Rattle.docket_theory.specs.Worlds.{World}
use Rattle.docket_theory.proofs.Entries.{row_numbered, entries_are, entries_number}
use Rattle.docket_theory.proofs.Orderly.{same_back, same_swept, Orderly, orderly, orderly_swept}
use Rattle.docket_theory.proofs.Reasons.{lodge_says, strike_says, settle_says, set_out_says}
use Rattle.docket_theory.proofs.Shutting.{settled_to, final_all, justified, closed_same, closed_from, swept_settled}
use Rattle.docket_theory.proofs.Soundness.{closed_unreachable}
use Rattle.docket_theory.proofs.Walking.{walked, ends_final}

-- which verdict it is, from its two tests
says_reached : (b c : Bool) → (cond b Reached (cond c Shut Undecided) ≡ Reached) ↔ (b ≡ true)
says_reached true c = ((λ e. refl), λ e. refl)
says_reached false true = ((λ e. absurd (let z : ◌≡◌ {A = ℕ} 0 1 = cc in omega arith)), λ e. absurd (both_ways false refl e))
says_reached false false = ((λ e. absurd (let z : ◌≡◌ {A = ℕ} 0 1 = cc in omega arith)), λ e. absurd (both_ways false refl e))

says_shut : (b c : Bool) → cond b Reached (cond c Shut Undecided) ≡ Shut → c ≡ true
says_shut true c e = absurd (let z : ◌≡◌ {A = ℕ} 0 1 = cc in omega arith)
says_shut false true e = refl
says_shut false false e = absurd (let z : ◌≡◌ {A = ℕ} 0 1 = cc in omega arith)

-- the trail is at no final cell where none can be reached
not_final : (m : Plan) (walk : Walk) (o : Option Position) → Walked m walk o → Unreachable m → final_position m o ≡ false
not_final m walk o at never = by (final_position m o) refl
  where
    by : (b : Bool) → final_position m o ≡ b → b ≡ false
    by false is = refl
    by true is =
        let (s, steps, here, made, (past, run), final) = (ends_final m walk o at).0 is in
        absurd (both_ways _ (never s (here ∷ past) steps run 0 here refl) final)

module _ {S : Type 0} {holds : S → ℕ → Reading → Type 0} {k : Calls S} (m : Plan) where
  -- a docket whose verdict is shut, with or without a trail, is closed
  shut_closed : Sound holds k → (w : World S) → Orderly k m w → is_shut m w ≡ true → Closed holds k m w
  shut_closed sound w o shut =
      let p = and_parts (eqb (open_duties m w) 0) (none_final m w) shut in closed_from m sound w o (eqb-true _ _ p.0) p.1

  closed_never : Sound holds k → (w : World S) → Orderly k m w → Closed holds k m w → Unreachable m
  closed_never sound w o closed = closed_unreachable sound m w o.few closed

  sweeps_shut : Accepted m → Sound holds k → Sure holds k → (w : World S) → Orderly k m w → (walk : Walk) → Walked m walk w.trail.position → (verdict_of m (swept_world k m w) ≡ Shut) ↔ Closed holds k m w
  sweeps_shut ok sound sure w o walk at = (there, back)
    where
      o' : Orderly k m (swept_world k m w)
      o' = orderly_swept k m ok w o

      there : verdict_of m (swept_world k m w) ≡ Shut → Closed holds k m w
      there shut =
          closed_same m (same_back (same_swept k m w)) (shut_closed sound (swept_world k m w) o' (says_shut (final_position m (swept_world k m w).trail.position) (is_shut m (swept_world k m w)) shut))

      back : Closed holds k m w → verdict_of m (swept_world k m w) ≡ Shut
      back closed =
          let shut : is_shut m (swept_world k m w) ≡ true = and_from _ _ (eq-eqb _ _ (settled_to m (swept_world k m w) o'.few (swept_settled m sure ok w o closed))) (final_all m (swept_world k m w) (closed_same m (same_swept k m w) closed).none_final_is) in
          let stays : final_position m (swept_world k m w).trail.position ≡ false = rw (same_swept k m w).trail (not_final m walk w.trail.position at (closed_never sound w o closed)) in
          rw (stays, shut)

pub promised : {S : Type 0} (holds : S → ℕ → Reading → Type 0) (k : Calls S) → Stands holds k
promised holds k m ok log w logged =
    let o = orderly k m ok logged in
    let at = walked k m logged in
    let live = entries_are k m ok logged in
    let ends = ends_final m (walk_of log) w.trail.position at in
    let reaches = says_reached (final_position m w.trail.position) (is_shut m w) in
    record {
      entries = (entries_number k m w _ o live, live);
      rows = λ i. row_numbered w.rows w.live i ∙ ap (λ (es : List (Entry _)). slice_get es i) live;
      lodges = λ sound sure. lodge_says holds k m w sound sure;
      strikes = strike_says holds k m w;
      settles = λ sound sure. settle_says holds k m w sound sure;
      sets_out = set_out_says holds k m w;
      marks = λ sound i j d at settled. justified m sound w d (duty_mark w i j) (o.kept i j d at settled);
      shut = λ sound shut. closed_never m sound w o (shut_closed m sound w o (says_shut (final_position m w.trail.position) (is_shut m w) shut));
      trail = at;
      reached = ((λ e. ends.0 (reaches.0 e)), λ e. reaches.1 (ends.1 e));
      sweeps = λ sound sure. sweeps_shut m ok sound sure w o (walk_of log) at;
    }

-- one more call, for those who make calls one by one
pub worked_more : {S : Type 0} (k : Calls S) (m : Plan) (c : Call S) (w v : World S) → Worked k m w → v ≡ (perform k m c w).1 → Worked k m v
worked_more k m c w v worked is = subst (Worked k m) (sym is) (_, called c worked.1)
