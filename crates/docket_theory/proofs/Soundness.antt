-- Where every duty is taken up, every configuration of every run lies in an entry.
use Rattle.std.proofs.Common.{◌≡◌, ℕ, zero, suc, ◌+◌, ◌-◌, ◌≤◌, true, cond, List, [], ◌∷◌, length, Some, Ok, Option, sym, refl, ap, ◌∙◌, subst, inl, inr, arith}
use Rattle.std.proofs.lemmas.List.FromFn.{length-map-range_with_len}
use Rattle.std.proofs.lemmas.List.{length-map}
use Rattle.std.specs.List.{slice_get}
use Rattle.wire.specs.declared.step.Step.{Step}
use Rattle.clocks.specs.Readings.{Reading, zero_reading, later, in_mask, cleared, count_at}
use Rattle.model.specs.declared.outgoing.Move.{Move}
use Rattle.model.specs.declared.outgoing.Move.TheVariants.{Wait, Finish, Start}
use Rattle.model.specs.Cells.{cell_at, face}
use Rattle.model.specs.Plans.{Plan}
use Rattle.model.specs.Outgoing.{moves_out}
use Rattle.model.specs.Runs.{Configuration, Meets, Moves, waits, starts, finishes, Run, opens, goes}
use Rattle.clockset.specs.Calls.{Calls, ◌⨾◌}
use Rattle.clockset.specs.Laws.{Sound}
use Rattle.docket_theory.specs.declared.Duty.{Duty}
use Rattle.docket_theory.specs.declared.Duty.TheVariants.{Opening, Leave}
use Rattle.docket_theory.specs.declared.Entry.{Entry}
use Rattle.docket_theory.specs.Images.{cut_by, entering, moved, image, target, duty_image, duty_target}
use Rattle.docket_theory.specs.Promise.{Closed, TakenUp, Unreachable}
use Rattle.docket_theory.specs.Worlds.{World, most_entries, open_mark, row_at}
use Rattle.docket_theory.proofs.Cutting.{both_came, cut_in}
use Rattle.docket_theory.proofs.Outgoing.{In, wait_number, finish_number, start_number}
use Rattle.docket_theory.proofs.Rows.{row_parts, named, leaves}

-- every configuration of a list
abbrev Each : (Configuration → Type 0) → List Configuration → Type 0
Each P [] = Unit {0}
Each P (x ∷ xs) = P x × Each P xs

each_at : (P : Configuration → Type 0) (xs : List Configuration) (i : ℕ) (x : Configuration) → slice_get xs i ≡ Some x → Each P xs → P x
each_at P [] i x e all = absurd (let z : ◌≡◌ {A = ℕ} 0 1 = cc in omega arith)
each_at P (y ∷ xs) zero x e all = subst P (let q : y ≡ x = cc in q) all.0
each_at P (y ∷ xs) (suc i) x e all = each_at P xs i x e all.1

abbrev some_entry : {S : Type 0} → ℕ → S → Option (Entry S)
some_entry c a = Some (record { cell = c; set = a })

cleared_six : (mask : ℕ) (v : Reading) → length (cleared (in_mask mask) v) ≡ 6
cleared_six mask v = length-map-range_with_len (λ i. cond (in_mask mask i) 0 (count_at v i)) 1 6

module _ {S : Type 0} {holds : S → ℕ → Reading → Type 0} {k : Calls S} (sound : Sound holds k) (m : Plan) where
  -- what a step does to a reading of a set, its image does to the set
  wait_in : (c : ℕ) (a b : S) → image k m c a Wait ≡ Ok b → (s n : ℕ) (v : Reading) → 1 ≤ s → length v ≡ 6 → holds a s v → Meets (cell_at m.cells c) s v → Meets (cell_at m.cells c) s (later n v) → holds b s (later n v)
  wait_in c a b im s n v one six h before after =
      let p = both_came (cut_by k (cell_at m.cells c) a) (moved k m c Wait) b im in
      let q = both_came (k.delay p.0) (cut_by k (cell_at m.cells c)) b p.2 in
      let cut = cut_in sound (cell_at m.cells c) a p.0 p.1 s v one six h before in
      cut_in sound (cell_at m.cells c) q.0 b q.2 s (later n v) one (length-map v (λ (x : ℕ). x + n) ∙ six) (sound.delay_in p.0 q.0 q.1 s n v one six cut) after

  enter_in : (c d : ℕ) (a b : S) → (cut_by k (cell_at m.cells c) a ⨾ entering k m c d) ≡ Ok b → (s : ℕ) (v : Reading) → 1 ≤ s → length v ≡ 6 → holds a s v → Meets (cell_at m.cells c) s v → Meets (cell_at m.cells d) s (cleared (in_mask (cell_at m.cells c).exits) v) → holds b s (cleared (in_mask (cell_at m.cells c).exits) v)
  enter_in c d a b im s v one six h before after =
      let mask = (cell_at m.cells c).exits in
      let p = both_came (cut_by k (cell_at m.cells c) a) (entering k m c d) b im in
      let q = both_came (k.reset p.0 mask) (cut_by k (cell_at m.cells d)) b p.2 in
      let cut = cut_in sound (cell_at m.cells c) a p.0 p.1 s v one six h before in
      cut_in sound (cell_at m.cells d) q.0 b q.2 s (cleared (in_mask mask) v) one (cleared_six mask v) (sound.reset_in p.0 q.0 mask q.1 s v one six cut) after

  module _ (w : World S) (few : w.live ≤ most_entries) (closed : Closed holds k m w) where
    -- an entry on the cell holds the reading
    abbrev Covered : ℕ → Configuration → Type 0
    Covered s here = (h : ℕ) × (a : S) × (row_at w h ≡ some_entry here.0 a) × holds a s here.1

    take_up : (d : Duty S) (s : ℕ) (v : Reading) → 1 ≤ s → length v ≡ 6 → TakenUp holds k m w d → ((a : S) → duty_image k m d ≡ Ok a → holds a s v) → Covered s (duty_target m d, v)
    take_up d s v one six t reads =
        elim t.2 [ inl none ↦ absurd (none s v one six (reads t.0 t.1)) | inr held ↦ (held.0, held.1.set, held.2 ∙ ap (λ (c : ℕ). some_entry c held.1.set) held.3, held.4 s v one six (reads t.0 t.1)) ]

    -- a step out of the cell of an entry is one of its duties
    duty_up : (h j : ℕ) (e : Entry S) (move : Move) → row_at w h ≡ Some e → slice_get (moves_out m.cells e.cell) j ≡ Some move → TakenUp holds k m w (Leave e move)
    duty_up h j e move at step =
        closed.duties h j (Leave e move) (named m w h j (Leave e move) (leaves e move (λ is. absurd (omega (arith, (row_parts w.rows w.live h e at).0))) at step))

    -- a configuration that a run meets
    record Met (s : ℕ) (here : Configuration) : Type 0 where
      covered : Covered s here
      meets : Meets (cell_at m.cells here.0) s here.1
      six : length here.1 ≡ 6

    entered : (s c d : ℕ) (v : Reading) (move : Move) → 1 ≤ s → Met s (c, v) → In move (moves_out m.cells c) → ((a : S) → image k m c a move ≡ (cut_by k (cell_at m.cells c) a ⨾ entering k m c d)) → target m c move ≡ d → Meets (cell_at m.cells d) s (cleared (in_mask (cell_at m.cells c).exits) v) → Met s (d, cleared (in_mask (cell_at m.cells c).exits) v)
    entered s c d v move one met number same goal h =
        let (i, a, at, held) = met.covered in
        let mask = (cell_at m.cells c).exits in
        let to = cleared (in_mask mask) v in
        let up = duty_up i number.0 (record { cell = c; set = a }) move at number.1 in
        let reads : (b : S) → image k m c a move ≡ Ok b → holds b s to = λ b im. enter_in c d a b (sym (same a) ∙ im) s v one met.six held met.meets h in
        record { covered = subst (λ (x : ℕ). Covered s (x, to)) goal (take_up (Leave (record { cell = c; set = a }) move) s to one (cleared_six mask v) up reads); meets = h; six = cleared_six mask v }

    step_met : (s : ℕ) {here there : Configuration} {step : Step} → 1 ≤ s → Met s here → Moves m s here step there → Met s there
    step_met s one met (waits {c} {v} n h) =
        let (i, a, at, held) = met.covered in
        let number = wait_number m.cells c in
        let six : length (later n v) ≡ 6 = length-map v (λ (x : ℕ). x + n) ∙ met.six in
        let up = duty_up i number.0 (record { cell = c; set = a }) Wait at number.1 in
        record { covered = take_up (Leave (record { cell = c; set = a }) Wait) s (later n v) one six up (λ b im. wait_in c a b im s n v one met.six held met.meets h); meets = h; six = six }
    step_met s one met (starts {c} {v} d e lt event from h) =
        entered s c d v (Start d (suc e)) one met (start_number m.cells c d e lt event.1 from) (λ a. refl) refl h
    step_met s one met (finishes {c} {v} e event h) =
        let index : suc e - 1 ≡ e = omega arith in
        entered s c (face m.cells true c e) v (Finish (suc e)) one met (finish_number m.cells c e event.1) (λ a. ap (λ (x : ℕ). cut_by k (cell_at m.cells c) a ⨾ entering k m c (face m.cells true c x)) index) (rw index) h

    run_met : (s : ℕ) {met : List Configuration} {steps : List Step} → Run m s met steps → (1 ≤ s) × Each (Met s) met
    run_met s (opens one h) =
        let up = take_up Opening s zero_reading one refl (closed.duties open_mark 0 Opening refl) (λ a im. cut_in sound (cell_at m.cells m.first) k.zero a im s zero_reading one refl (sound.zero_in s one) h) in
        (one, (record { covered = up; meets = h; six = refl }, tt))
    run_met s (goes step run moves) =
        let before = run_met s run in (before.0, (step_met s before.0 before.1.0 moves, before.1))

    pub closed_unreachable : Unreachable m
    closed_unreachable s met steps run i here at =
        let (h, a, row, held) = (each_at (Met s) met i here at (run_met s run).1).covered in
        closed.none_final_is h (record { cell = here.0; set = a }) row
