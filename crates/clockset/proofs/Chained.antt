-- Calls one after another, of which the first refusal counts.
use Rattle.std.proofs.Common.{◌≡◌, ℕ, ◌+◌, ◌<◌, ◌≤◌, List, [], ◌∷◌, length, get_or, drop, IsErrAnd, None, Some, Option, Continue, Break, ControlFlow, Ok, Err, Result, subst, sym, refl, ap, ◌∙◌}
use Rattle.std.proofs.lemmas.List.{at_drop_more, at_drop_all}
use Rattle.std.proofs.lemmas.Iterator.{YieldsList}
use Rattle.std.specs.Fn.{Called}
use Rattle.std.specs.Iterator.{AlwaysYields, TryFoldTurn, TryFoldsItems, Yields}
use Rattle.std.specs.List.{FoldsTo}
use Rattle.std.specs.Option.{MatchOption}
use Rattle.std.specs.Result.{IsErr, result_from_control_flow}
use denote.Param.Members.{Mut}
use Rattle.slip.specs.declared.Slip.{Slip}
use Rattle.clockset.specs.Calls.{◌⨾◌}

-- a chain F over the list goes on by G at each element; F and G are given by what one step of it is
module _ {X W : Type 0} (F : List X → W → Result W Slip) (G : X → W → Result W Slip) (none : (w : W) → F [] w ≡ Ok w) (one : (x : X) (xs : List X) (w : W) → F (x ∷ xs) w ≡ (G x w ⨾ F xs)) where
  -- one turn that was not refused
  pub chain_more : (xs : List X) (i : ℕ) (d : X) (w v : W) (all : Result W Slip) → i < length xs → F (drop i xs) w ≡ all → G (get_or xs i d) w ≡ Ok v → F (drop (i + 1) xs) v ≡ all
  chain_more xs i d w v all lt inv e =
      sym (ap (λ (r : Result W Slip). r ⨾ F (drop (i + 1) xs)) e) ∙ sym (one (get_or xs i d) (drop (i + 1) xs) w) ∙ sym (at_drop_more (λ (ys : List X). F ys w) xs i d lt) ∙ inv

  -- a turn that was refused
  pub chain_stop : (xs : List X) (i : ℕ) (d : X) (w : W) (s : Slip) (all : Result W Slip) → i < length xs → F (drop i xs) w ≡ all → G (get_or xs i d) w ≡ Err s → Err s ≡ all
  chain_stop xs i d w s all lt inv e =
      sym (ap (λ (r : Result W Slip). r ⨾ F (drop (i + 1) xs)) e) ∙ sym (one (get_or xs i d) (drop (i + 1) xs) w) ∙ sym (at_drop_more (λ (ys : List X). F ys w) xs i d lt) ∙ inv

  pub chain_end : (xs : List X) (i : ℕ) (w : W) (all : Result W Slip) → length xs ≤ i → F (drop i xs) w ≡ all → Ok w ≡ all
  chain_end xs i w all le inv = sym (none w) ∙ sym (at_drop_all (λ (ys : List X). F ys w) xs i le) ∙ inv

-- the exit of a `?`
pub exit_is : {A : Type 0} (r : Result A Slip) (e : Slip) → IsErrAnd r (λ y. y ≡ e) → r ≡ Err e
exit_is (Ok x) e h = absurd h
exit_is (Err y) e h = ap Err h

pub bind_assoc : {A C D : Type 0} (r : Result A Slip) (f : A → Result C Slip) (h : C → Result D Slip) → (r ⨾ λ a. f a ⨾ h) ≡ ((r ⨾ f) ⨾ h)
bind_assoc (Ok x) f h = refl
bind_assoc (Err e) f h = refl

-- what follows an exit does not happen
pub exit_then : {A C : Type 0} (r : Result A Slip) (e : Slip) (f : A → Result C Slip) → IsErrAnd r (λ y. y ≡ e) → (r ⨾ f) ≡ Err e
exit_then (Ok x) e f h = absurd h
exit_then (Err y) e f h = ap Err h

-- the fold of a list by calls of which the first refusal counts: the calls are G, and change nothing that they keep
module _ {S A X F E W : Type 0} (steps : S → Option A → S → Type 0) (v : A → X) (g : Mut F (W × (A × Unit {0})) (Result W Slip)) (goes : Result W Slip → ControlFlow E W → Type 0) (stops : E → Result W Slip → Type 0) (f : F) (C : List X → W → Result W Slip) (G : X → W → Result W Slip)
    (none : (w : W) → C [] w ≡ Ok w) (one : (x : X) (xs : List X) (w : W) → C (x ∷ xs) w ≡ (G x w ⨾ C xs)) (calls : (w : W) (x : A) (r : Result W Slip) (q : F) → Called g f (w, (x, tt)) r q → (q ≡ f) × (r ≡ G (v x) w))
    (next : (r : Result W Slip) (a : W) → goes r (Continue a) → r ≡ Ok a) (refused : (t r : Result W Slip) (e : E) → goes t (Break e) → stops e r → (d : Slip) × (t ≡ Err d) × (r ≡ Err d)) where
  -- a call was refused, or none was
  abbrev Ending : Option A → F → W → Result W Slip → Type 0
  Ending o h a r = MatchOption o (goes r (Continue a)) (λ x. (t : Result W Slip) × (k : F) × (e : E) × Called g h (a, (x, tt)) t k × goes t (Break e) × stops e r)

  ends : (s u : S) (o : Option A) (w : W) (r : Result W Slip) (ys : List X) → AlwaysYields steps v s ys → steps s o u → Ending o f w r → r ≡ C ys w
  ends s u None w r [] all last end = next r w end ∙ sym (none w)
  ends s u None w r (y ∷ ys) all last end = absurd (all.0 u last)
  ends s u (Some x) w r [] all last end = absurd (all x u last)
  ends s u (Some x) w r (y ∷ ys) all last end =
      let item = (all.1 x u last).0 in
      let call = calls w x end.0 end.1 end.3 in
      let stop = refused end.0 r end.2 end.4 end.5 in
      let here : G y w ≡ Err stop.0 = ap (λ z. G z w) (sym item) ∙ sym call.1 ∙ stop.1 in
      stop.2 ∙ sym (one y ys w ∙ ap (λ (z : Result W Slip). z ⨾ C ys) here)

  folds : (xs : List A) (s t u : S) (o : Option A) (w a : W) (h : F) (r : Result W Slip) (ys : List X) → AlwaysYields steps v s ys → Yields steps s xs t → steps t o u
      → FoldsTo {P = F × W} (TryFoldTurn g goes) (f, w) xs (h, a) → Ending o h a r → r ≡ C ys w
  folds [] s t u o w a h r ys all run last turns end =
      ends s u o w r ys all (subst (λ z. steps z o u) (sym run) last) (subst (λ (p : F × W). Ending o p.0 p.1 r) (sym turns) end)
  folds (x ∷ xs) s t u o w a h r [] all run last turns end = absurd (all x run.0 run.1)
  folds (x ∷ xs) s t u o w a h r (y ∷ ys) all run last turns end =
      let p = turns.0 in
      let turn = turns.1 in
      let step = all.1 x run.0 run.1 in
      let call = calls w x turn.0 p.0 turn.1 in
      let taken : G y w ≡ Ok p.1 = ap (λ z. G z w) (sym step.0) ∙ sym call.1 ∙ next turn.0 p.1 turn.2 in
      folds xs run.0 t u o p.1 a h r ys step.1 run.2 last (subst (λ (k : F). FoldsTo {P = F × W} (TryFoldTurn g goes) (k, p.1) xs (h, a)) call.0 turns.2) end
      ∙ sym (one y ys w ∙ ap (λ (z : Result W Slip). z ⨾ C ys) taken)

-- what `try_fold` answers
pub folded : {S A X F W : Type 0} {steps : S → Option A → S → Type 0} {v : A → X} {g : Mut F (W × (A × Unit {0})) (Result W Slip)} {s : S} (u : S) (f : F) (w : W) (r : Result W Slip) {ys : List X}
    → TryFoldsItems steps g (λ t c. t ≡ result_from_control_flow c) (λ e z. IsErr z × IsErrAnd z (λ y. y ≡ e.0)) s f w r u → YieldsList steps v s ys
    → (C : List X → W → Result W Slip) (G : X → W → Result W Slip) → ((z : W) → C [] z ≡ Ok z) → ((x : X) (xs : List X) (z : W) → C (x ∷ xs) z ≡ (G x z ⨾ C xs))
    → ((z : W) (x : A) (t : Result W Slip) (q : F) → Called g f (z, (x, tt)) t q → (q ≡ f) × (t ≡ G (v x) z))
    → r ≡ C ys w
folded {steps = steps} {v = v} {g = g} {s = s} u f w r {ys = ys} d all C G none one calls =
    folds steps v g (λ t c. t ≡ result_from_control_flow c) (λ e z. IsErr z × IsErrAnd z (λ y. y ≡ e.0)) f C G none one calls
    (λ t a h. h) (λ t z e h k. (e.0, h, exit_is z e.0 k.1)) d.0 s d.4.0 u d.1 w d.3 d.2 r ys all.runs d.4.1 d.4.2 d.5 d.6
