-- The trail of a docket is where the run of its accepted steps ends.
use Rattle.std.proofs.Common.{◌≡◌, ℕ, suc, ◌-◌, Bool, true, false, cond, ◌↔◌, List, [], ◌∷◌, Some, None, Ok, Err, Option, Result, sym, refl, ap, ◌∙◌, subst, arith}
use Rattle.std.proofs.lemmas.Bool.{both_ways}
use Rattle.slip.specs.declared.Slip.{Slip}
use Rattle.wire.specs.declared.step.Step.{Step}
use Rattle.wire.specs.declared.step.Step.TheVariants.{Wait, Start, Finish}
use Rattle.clocks.specs.Readings.{zero_reading, later, in_mask, cleared}
use Rattle.model.specs.Cells.{cell_at, face}
use Rattle.model.specs.Plans.{Plan}
use Rattle.model.specs.Runs.{Configuration, Moves, waits, starts, finishes, Run, opens, goes}
use Rattle.trail.specs.declared.position.Position.{Position}
use Rattle.trail.specs.declared.position.Trail.{Trail}
use Rattle.trail.specs.Calls.{stepped}
use Rattle.trail.specs.Walks.{configuration, Walks, SetsOut}
use Rattle.trail.proofs.Walked.{wait_walks, start_walks, finish_walks, set_out_opens}
use Rattle.clockset.specs.Calls.{Calls}
use Rattle.docket_theory.specs.Docket.{unless, is_final, final_position, lodge_fault, lodge_after, strike_fault, strike_after, settle_fault, claim_mark, marked, swept_world}
use Rattle.docket_theory.specs.Log.{Call, lodge, strike, settle, sweep, set_out, wait, start, finish, verdict, Log, Logged, begun, called, perform, accepted, done_or, Walk, one_step, walk_by, walk_of, waits_of}
use Rattle.docket_theory.specs.Promise.{Walked, EndsFinal}
use Rattle.docket_theory.specs.Worlds.{World}
use Rattle.docket_theory.proofs.Keeping.{kept_unless}
use Rattle.docket_theory.proofs.Orderly.{same_marked, same_swept}
use Rattle.docket_theory.proofs.Rows.{none_some, same_some}

-- where steps lead
abbrev arrives : Plan → Configuration → Step → Configuration
arrives m here (Wait n) = (here.0, later n here.1)
arrives m here (Start d k) = (d, cleared (in_mask (cell_at m.cells here.0).exits) here.1)
arrives m here (Finish k) =
    (face m.cells true here.0 (k - 1), cleared (in_mask (cell_at m.cells here.0).exits) here.1)

abbrev end_of : Plan → List Step → Configuration
end_of m [] = (m.first, zero_reading)
end_of m (step ∷ steps) = arrives m (end_of m steps) step

lands : {m : Plan} {s : ℕ} {here there : Configuration} {step : Step} → Moves m s here step there → there ≡ arrives m here step
lands (waits n h) = refl
lands (starts d k lt event from h) = refl
lands {m} (finishes {c} {v} k event h) =
    let index : suc k - 1 ≡ k = omega arith in
    ap (λ (x : ℕ). (face m.cells true c x, cleared (in_mask (cell_at m.cells c).exits) v)) (sym index)

abbrev Head : List Configuration → Configuration → Type 0
Head [] c = ⊥
Head (x ∷ xs) c = x ≡ c

-- the steps of a run tell where it ends
run_end : {m : Plan} {s : ℕ} {met : List Configuration} {steps : List Step} → Run m s met steps → Head met (end_of m steps)
run_end (opens one h) = refl
run_end {m} (goes {steps = steps} step run moves) = lands moves ∙ ap (λ (c : Configuration). arrives m c step) (run_end run)

pub ends_final : (m : Plan) (walk : Walk) (o : Option Position) → Walked m walk o → (final_position m o ≡ true) ↔ EndsFinal m walk
ends_final m None o at =
    ((λ final. absurd (both_ways _ (ap (final_position m) at) final)), λ ends. absurd (none_some refl ends.3))
ends_final m (Some walk) o (p, at, scale, elapsed, runs) =
    ((λ final. (walk.0, walk.1, configuration p, refl, runs, sym (ap (final_position m) at) ∙ final)), back)
  where
    back : EndsFinal m (Some walk) → final_position m o ≡ true
    back (s, steps, here, is, run, final) =
        let same : walk.1 ≡ steps = ap (λ (x : ℕ × List Step). x.1) (same_some is) in
        let there : configuration p ≡ here = run_end runs.1 ∙ ap (end_of m) same ∙ sym (run_end run.1) in
        ap (final_position m) at ∙ ap (λ (c : Configuration). is_final m c.0) there ∙ final

step_walks : (m : Plan) (step : Step) (t : Trail) → Walks m step t (stepped m step t).0 (stepped m step t).1
step_walks m (Wait n) t = wait_walks m n t
step_walks m (Start d k) t = start_walks m d k t
step_walks m (Finish k) t = finish_walks m k t

walked_out : (m : Plan) (s : ℕ) (t u : Trail) (r : Result (Unit {0}) Slip) (walk : Walk) → SetsOut m s t r u → Walked m walk t.position → Walked m (cond (accepted (done_or r)) (Some (s, [])) walk) u.position
walked_out m s t u (Ok x) walk ((one, most, meets), at) old =
    (record { cell = m.first; counts = zero_reading; scale = s; elapsed = 0 }, at, refl, refl, ([], opens one meets))
walked_out m s t u (Err e) walk (stays, never) old = subst (λ (x : Trail). Walked m walk x.position) (sym stays) old

walked_step : (m : Plan) (step : Step) (t u : Trail) (r : Result (Unit {0}) Slip) (walk : Walk) → Walks m step t r u → Walked m walk t.position → Walked m (cond (accepted (done_or r)) (one_step step walk) walk) u.position
walked_step m step t u (Err e) walk (stays, never) old =
    subst (λ (x : Trail). Walked m walk x.position) (sym stays) old
walked_step m step t u (Ok x) None (p, q, at, to, go) old = absurd (none_some old at)
walked_step m step t u (Ok x) (Some walk) (p, q, at, to, go) (here, at', scale, elapsed, (past, run)) =
    let same : here ≡ p = same_some (sym at' ∙ at) in
    let scale' : p.scale ≡ walk.0 = ap (λ (x : Position). x.scale) (sym same) ∙ scale in
    let elapsed' : p.elapsed ≡ waits_of walk.1 = ap (λ (x : Position). x.elapsed) (sym same) ∙ elapsed in
    let run' : Run m walk.0 (configuration p ∷ past) walk.1 = subst (λ (x : Position). Run m walk.0 (configuration x ∷ past) walk.1) same run in
    let moves : Moves m walk.0 (configuration p) step (configuration q) = subst (λ (x : ℕ). Moves m x (configuration p) step (configuration q)) scale' go.moves in
    (q, to, go.scale ∙ scale', go.elapsed ∙ rw elapsed', (configuration p ∷ past, goes step run' moves))

-- a call that leaves both as they were
walk_stays : (m : Plan) (b : Bool) (walk : Walk) (t u : Trail) → u ≡ t → Walked m walk t.position → Walked m (cond b walk walk) u.position
walk_stays m true walk t u is h = subst (λ (x : Trail). Walked m walk x.position) (sym is) h
walk_stays m false walk t u is h = subst (λ (x : Trail). Walked m walk x.position) (sym is) h

trail_stays : {S A : Type 0} (o : Option Slip) (a : A) (after w : World S) → after.trail ≡ w.trail → (unless o a after w).1.trail ≡ w.trail
trail_stays o a after w is = kept_unless (λ (v : World _). v.trail ≡ w.trail) o a after w refl (λ none. is)

module _ {S : Type 0} (k : Calls S) (m : Plan) where
  walked_call : (c : Call S) (w : World S) (walk : Walk) → Walked m walk w.trail.position → Walked m (cond (accepted (perform k m c w).0) (walk_by c walk) walk) (perform k m c w).1.trail.position
  walked_call (lodge cell a) w walk h =
      walk_stays m (accepted (perform k m (lodge cell a) w).0) walk w.trail _ (trail_stays (lodge_fault k m cell a w) w.live (lodge_after cell a w) w refl) h
  walked_call strike w walk h =
      walk_stays m (accepted (perform k m strike w).0) walk w.trail _ (trail_stays (strike_fault w) tt (strike_after w) w refl) h
  walked_call (settle i j claim) w walk h =
      walk_stays m (accepted (perform k m (settle i j claim) w).0) walk w.trail _ (trail_stays (settle_fault k m i j claim w) tt (marked i j (claim_mark claim) w) w (same_marked w i j (claim_mark claim)).trail) h
  walked_call sweep w walk h = walk_stays m true walk w.trail (swept_world k m w).trail (same_swept k m w).trail h
  walked_call (set_out s) w walk h = walked_out m s w.trail _ _ walk (set_out_opens m s w.trail) h
  walked_call (wait n) w walk h = walked_step m (Wait n) w.trail _ _ walk (step_walks m (Wait n) w.trail) h
  walked_call (start d e) w walk h = walked_step m (Start d e) w.trail _ _ walk (step_walks m (Start d e) w.trail) h
  walked_call (finish e) w walk h = walked_step m (Finish e) w.trail _ _ walk (step_walks m (Finish e) w.trail) h
  walked_call verdict w walk h = h

  pub walked : {log : Log S} {w : World S} → Logged k m log w → Walked m (walk_of log) w.trail.position
  walked (begun rows marks) = refl
  walked (called {log = log} {w = w} c before) = walked_call c w (walk_of log) (walked before)
