-- A report that says shut excludes every run to a final cell: the world that it speaks of comes of the docket's calls alone.
use Rattle.std.proofs.Common.{◌≡◌, ℕ, zero, suc, List, [], ◌∷◌, ◌++◌, Some, None, Ok, Err, Option, Result, IsOk, IfOk, sym, refl, ap, ◌∙◌, subst, arith}
use Rattle.std.specs.List.{slice_get}
use Rattle.slip.specs.declared.Slip.{Slip}
use Rattle.clocks.specs.declared.Gap.{Gap}
use Rattle.clocks.specs.Readings.{Reading}
use Rattle.wire.specs.declared.step.Step.{Step}
use Rattle.wire.specs.declared.step.Step.TheVariants.{Wait, Start, Finish}
use Rattle.wire.specs.Files.{trail_file}
use Rattle.model.specs.Plans.{Plan, Accepted}
use Rattle.model.specs.Read.{read_plan}
use Rattle.trail.specs.declared.position.Position.{Position}
use Rattle.clockset.specs.Calls.{Calls, ◌⨾◌, cut_all}
use Rattle.clockset.specs.Laws.{Sound}
use Rattle.docket_theory.specs.declared.Verdict.TheVariants.{Shut}
use Rattle.docket_theory.specs.Docket.{lodged, swept, verdict_of}
use Rattle.docket_theory.specs.Log.{Worked, begun, lodge, sweep, set_out, wait, start, finish, set_out_call, step_call}
use Rattle.docket_theory.specs.Promise.{Unreachable}
use Rattle.docket_theory.specs.Worlds.{World}
use Rattle.docket_theory.proofs.Promised.{promised, worked_more}
use Rattle.lines.specs.declared.Line.{Line}
use Rattle.lines.specs.declared.Line.TheVariants.{Cells, NoTrail, Refused, Verdict, Trail as Ended}
use Rattle.lines.specs.Lines.{at_position}
use Rattle.judging.specs.Judge.{unless_refused, lodge_all, step_all, walk_all, verdict_lines, walked_lines, trail_lines, swept_lines, lodged_lines, cover_entries, plan_lines, judge_lines}
use Rattle.judging.specs.Judge as judge

-- a chain that came through, came through its first part
through : {A C : Type 0} (r : Result A Slip) (f : A → Result C Slip) (y : C) → (r ⨾ f) ≡ Ok y → (x : A) × (r ≡ Ok x) × (f x ≡ Ok y)
through (Ok x) f y h = (x, refl, h)
through (Err e) f y h = absurd (let z : ◌≡◌ {A = ℕ} 0 1 = cc in omega arith)

module _ {S : Type 0} (k : Calls S) (m : Plan) where
  -- a call that was not refused
  came : {A : Type 0} (o : Result A Slip × World S) (v : World S) → unless_refused k o ≡ Ok v → v ≡ o.1
  came o v h = let p = through o.0 (λ _. Ok o.1) v h in grind arith

  lodged_worked : (es : List (ℕ × List Gap)) (w v : World S) → Worked k m w → lodge_all k m es w ≡ Ok v → Worked k m v
  lodged_worked [] w v worked h = let e : w ≡ v = cc in rw (← e) worked
  lodged_worked (e ∷ es) w v worked h =
      let p = through (cut_all k e.1 k.all) (λ a. unless_refused k (lodged k m e.0 a w) ⨾ lodge_all k m es) v h in
      let q = through (unless_refused k (lodged k m e.0 p.0 w)) (lodge_all k m es) v p.2 in
      lodged_worked es q.0 v (worked_more k m (lodge e.0 p.0) w q.0 worked (came (lodged k m e.0 p.0 w) q.0 q.1)) q.2

  step_worked : (x : Step) (w v : World S) → Worked k m w → v ≡ (step_call m x w).1 → Worked k m v
  step_worked (Wait n) w v worked is = worked_more k m (wait n) w v worked is
  step_worked (Start d e) w v worked is = worked_more k m (start d e) w v worked is
  step_worked (Finish e) w v worked is = worked_more k m (finish e) w v worked is

  steps_worked : (xs : List Step) (w v : World S) → Worked k m w → step_all k m xs w ≡ Ok v → Worked k m v
  steps_worked [] w v worked h = let e : w ≡ v = cc in rw (← e) worked
  steps_worked (x ∷ xs) w v worked h =
      let q = through (unless_refused k (step_call m x w)) (step_all k m xs) v h in
      steps_worked xs q.0 v (step_worked x w q.0 worked (came (step_call m x w) q.0 q.1)) q.2

  walk_worked : (f : ℕ × List Step) (w v : World S) → Worked k m w → walk_all k m f w ≡ Ok v → Worked k m v
  walk_worked f w v worked h =
      let q = through (unless_refused k (set_out_call m f.0 w)) (step_all k m f.1) v h in
      steps_worked f.1 q.0 v (worked_more k m (set_out f.0) w q.0 worked (came (set_out_call m f.0 w) q.0 q.1)) q.2

module _ {S : Type 0} (holds : S → ℕ → Reading → Type 0) (k : Calls S) (sound : Sound holds k) (m : Plan) (ok : Accepted m) where
  -- the line stands somewhere in the lines
  Says : List Line → Type 0
  Says ls = (i : ℕ) × (slice_get ls i ≡ Some (Verdict Shut))

  past : (l : Line) (ls : List Line) → (l ≡ Verdict Shut → ⊥) → (Says ls → Unreachable m) → Says (l ∷ ls) → Unreachable m
  unfolding Says
  past l ls other rest said = at said.0 said.1
    where
      at : (i : ℕ) → slice_get (l ∷ ls) i ≡ Some (Verdict Shut) → Unreachable m
      at zero e = absurd (other (let h : l ≡ Verdict Shut = cc in h))
      at (suc i) e = rest (i, e)

  nothing : Says [] → Unreachable m
  unfolding Says
  nothing said = absurd (let z : ◌≡◌ {A = ℕ} 0 1 = none said.0 said.1 in omega arith)
    where
      none : (i : ℕ) → slice_get {X = Line} [] i ≡ Some (Verdict Shut) → ◌≡◌ {A = ℕ} 0 1
      none i e = cc

  verdict_shut : (w : World S) → Worked k m w → Says (verdict_lines k m w) → Unreachable m
  unfolding Says
  verdict_shut w worked said = at said.0 said.1
    where
      at : (i : ℕ) → slice_get (verdict_lines k m w) i ≡ Some (Verdict Shut) → Unreachable m
      at zero e = (promised holds k m ok worked.0 w worked.1).shut sound (let h : verdict_of m w ≡ Shut = cc in h)
      at (suc i) e = nothing (i, e)

  walked_shut : (r : Result (World S) Slip) → ((v : World S) → r ≡ Ok v → Worked k m v) → Says (walked_lines k m r) → Unreachable m
  walked_shut (Ok v) worked said = place v.trail.position said
    where
      place : (o : Option Position) → Says (at_position o Ended ++ verdict_lines k m v) → Unreachable m
      place None said' = verdict_shut v (worked v refl) said'
      place (Some p) said' = past (Ended p) (verdict_lines k m v) (λ e. let z : ◌≡◌ {A = ℕ} 0 1 = cc in omega arith) (verdict_shut v (worked v refl)) said'
  walked_shut (Err e) worked said = past (Refused e) [] (λ h. let z : ◌≡◌ {A = ℕ} 0 1 = cc in omega arith) nothing said

  trail_shut : (trail : Option (List ℕ)) (w : World S) → Worked k m w → Says (trail_lines k m trail w) → Unreachable m
  trail_shut None w worked said =
      past NoTrail (verdict_lines k m w) (λ h. let z : ◌≡◌ {A = ℕ} 0 1 = cc in omega arith) (verdict_shut w worked) said
  trail_shut (Some s) w worked said =
      walked_shut (trail_file s ⨾ λ f. walk_all k m f w) (λ v h. let p = through (trail_file s) (λ f. walk_all k m f w) v h in walk_worked k m p.0 w v worked p.2) said

  lodged_shut : (trail : Option (List ℕ)) (r : Result (World S) Slip) → ((v : World S) → r ≡ Ok v → Worked k m v) → Says (lodged_lines k m trail r) → Unreachable m
  lodged_shut trail (Ok w) worked said =
      past _ (trail_lines k m trail (swept k m w).1) (λ h. let z : ◌≡◌ {A = ℕ} 0 1 = cc in omega arith)
      (trail_shut trail (swept k m w).1 (worked_more k m sweep w (swept k m w).1 (worked w refl) refl)) said
  lodged_shut trail (Err e) worked said = past (Refused e) [] (λ h. let z : ◌≡◌ {A = ℕ} 0 1 = cc in omega arith) nothing said

  pub plan_shut : (cover trail : Option (List ℕ)) → (i : ℕ) → slice_get (plan_lines k cover trail (Ok m)) i ≡ Some (Verdict Shut) → Unreachable m
  unfolding Says
  plan_shut cover trail i e =
      past (Cells _) (lodged_lines k m trail (cover_entries cover ⨾ λ es. lodge_all k m es (judge.begun k))) (λ h. let z : ◌≡◌ {A = ℕ} 0 1 = cc in omega arith)
      (lodged_shut trail (cover_entries cover ⨾ λ es. lodge_all k m es (judge.begun k))
      (λ v h. let p = through (cover_entries cover) (λ es. lodge_all k m es (judge.begun k)) v h in lodged_worked k m p.0 (judge.begun k) v (_, begun _ _) p.2))
      (i, e)

-- the same of a report on a model that was read
pub report_shut : {S : Type 0} (holds : S → ℕ → Reading → Type 0) (k : Calls S) → Sound holds k → (p : Plan) → Accepted p → (r : Result Plan Slip) (cover trail : Option (List ℕ)) (ls : List Line) → r ≡ Ok p → ls ≡ plan_lines k cover trail (Ok p) → (m : Plan) → r ≡ Ok m → (i : ℕ) → slice_get ls i ≡ Some (Verdict Shut) → Unreachable m
report_shut holds k sound p ok r cover trail ls is lines m also i said =
    let e : p ≡ m = cc in
    subst Unreachable e (plan_shut holds k sound p ok cover trail i (ap (λ (l : List Line). slice_get l i) (sym lines) ∙ said))

-- the same of a report that was made
pub judged_shut : {S V E : Type 0} (holds : S → ℕ → Reading → Type 0) (k : Calls S) → Sound holds k → (model : List ℕ) (cover trail : Option (List ℕ)) (items : V → List Line) (r : Result V E) → (IsOk r → (m : Plan) → read_plan model ≡ Ok m → Accepted m) → IfOk r (λ v. items v ≡ judge_lines k model cover trail) → IfOk r (λ v. (m : Plan) → read_plan model ≡ Ok m → (i : ℕ) → slice_get (items v) i ≡ Some (Verdict Shut) → Unreachable m)
judged_shut holds k sound model cover trail items (Ok v) ok lines = λ m is i said.
    plan_shut holds k sound m (ok refl m is) cover trail i (ap (λ (ls : List Line). slice_get ls i) (sym (lines ∙ ap (plan_lines k cover trail) is)) ∙ said)
judged_shut holds k sound model cover trail items (Err e) ok lines = tt
