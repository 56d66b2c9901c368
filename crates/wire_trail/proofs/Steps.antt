-- Steps up to the end of a file.
use Rattle.std.proofs.Common.{Bool, cond, IsErrAnd, Result, Vec, Global, vec_items, ◌∷◌, ◌++◌, subst, inl, inr, ◌≡◌, ℕ, zero, suc, ◌+◌, ◌-◌, ◌<◌, ◌≤◌, List, [], length, Some, None, Ok, Err, Option, refl, ap, arith}
use Rattle.std.proofs.lemmas.Bool.{cases_eq, le-ltb, lt-ltb}
use Rattle.slip.specs.declared.Slip.{Slip}
use Rattle.wire_fields.specs.declared.fault.Fault.{Fault}
use Rattle.wire_fields.specs.declared.fault.Fault.TheVariants.{Refused}
use Rattle.wire_fields.specs.declared.reader.Reader.{Reader}
use Rattle.wire_fields.specs.Reading.{◌⨟◌, field, many}
use Rattle.wire_fields.specs.Readers.{Takes, Gathers}
use Rattle.wire_fields.proofs.Many.{HasRead, has_read_none, has_read_more, has_read_fault}
use Rattle.wire_trail.specs.declared.step.Step.{Step}
use Rattle.wire_trail.specs.StepFormat.{step_at, next_at}
use Rattle.wire_trail.specs.Trails.{added, steps_at, all_steps_at}

-- what is read of a field of n bytes ends behind them
field_end : {A : Type 0} (s : List ℕ) (p n q : ℕ) (v x : A) → field s p n v ≡ Ok (x, q) → q ≡ p + n
field_end s p n q v x h = grind arith

-- a step has a byte at least
step_longer : (s : List ℕ) (p q : ℕ) (t : Step) → step_at s p ≡ Ok (t, q) → p < q
step_longer s p q t h = grind (arith, field_end)

-- the next of a file that has not ended
next_here : (s : List ℕ) (p : ℕ) → p < length s → next_at s p ≡ (step_at s p ⨟ λ t q. Ok (Some t, q))
next_here s p lt = ap (λ (b : Bool). cond b (step_at s p ⨟ λ t q. Ok (Some t, q)) (Ok (None, p))) (lt-ltb p (length s) lt)

next_step : (mid new : Reader) (t : Step) → mid.at < length mid.bytes.now → Takes step_at mid new (Ok t) → Takes next_at mid new (Ok (Some t))
next_step mid new t lt h = record { reads = rw (next_here mid.bytes.now mid.at lt, h.reads) refl; same = h.same }

next_refused : (mid new : Reader) (e : Slip) → mid.at < length mid.bytes.now → Takes step_at mid new (Err e) → Gathers {A = Option Step} (λ o. o) next_at mid new (Err (Refused e))
next_refused mid new e lt h = record { reads = rw (next_here mid.bytes.now mid.at lt, h.reads) refl; same = h.same }

-- behind the last step no further turn finds one
pub idle : (s : List ℕ) (p k n q : ℕ) (steps : List Step) → k ≤ n → length s ≤ q
    → many (λ xs _ x. added xs x) (λ _. next_at) [] k s p ≡ Ok (steps, q) → many (λ xs _ x. added xs x) (λ _. next_at) [] n s p ≡ Ok (steps, q)
unfolding many
idle s p k zero q steps le end e = let z : k ≡ 0 = omega arith in subst (λ (m : ℕ). many (λ xs _ x. added xs x) (λ _. next_at) [] m s p ≡ Ok (steps, q)) z e
idle s p k (suc n) q steps le end e =
    elim (cases_eq k (suc n)) [
      | inl same ↦ subst (λ (m : ℕ). many (λ xs _ x. added xs x) (λ _. next_at) [] m s p ≡ Ok (steps, q)) same e
      | inr less ↦ rw (idle s p k n q steps (omega arith) end e, le-ltb q (length s) end) refl
    ]

-- from the old reader to the new one k steps were read
pub record Walked (k : ℕ) (steps : List Step) (old new : Reader) : Type 0 where
  pub read : HasRead (λ xs _ x. added xs x) (λ _. next_at) [] k steps old new
  pub few : k + old.at ≤ new.at

pub walked_none : (old : Reader) → Walked 0 [] old old
walked_none old = record { read = has_read_none _ _ _ old; few = omega arith }

pub walked_more : (k : ℕ) (steps : List Step) (old mid new : Reader) (t : Step) → Walked k steps old mid → mid.at < length mid.bytes.now
    → Takes step_at mid new (Ok t) → Walked (k + 1) (steps ++ t ∷ []) old new
walked_more k steps old mid new t w lt h =
    let longer = step_longer mid.bytes.now mid.at new.at t h.reads in
    record { read = has_read_more _ _ _ k steps old mid new (Some t) w.read (next_step mid new t lt h); few = omega (arith, w.few, longer) }

pub walked_refused : (k : ℕ) (steps : List Step) (old mid new : Reader) (e : Slip) (r : Result (Vec Step Global) Fault) → Walked k steps old mid
    → mid.at < length mid.bytes.now → Takes step_at mid new (Err e) → IsErrAnd r (λ y. y ≡ Refused e) → Gathers (λ v. vec_items v) all_steps_at old new r
unfolding steps_at
walked_refused k steps old mid new e r w lt h f =
    let size : length mid.bytes.now ≡ length old.bytes.now = ap (λ b. length b.now) w.read.same in
    let all = has_read_fault _ _ _ _ (λ v. vec_items v) k (length old.bytes.now - old.at) steps old mid new (Refused e) r (omega (arith, w.few, size)) w.read (next_refused mid new e lt h) f in
    record { reads = all.reads; same = all.same }

pub walked_all : (k : ℕ) (steps : List Step) (old new : Reader) → Walked k steps old new → length new.bytes.now ≤ new.at
    → all_steps_at old.bytes.now old.at ≡ Ok (steps, new.at)
unfolding steps_at
walked_all k steps old new w end =
    let size : length new.bytes.now ≡ length old.bytes.now = ap (λ b. length b.now) w.read.same in
    idle old.bytes.now old.at k (length old.bytes.now - old.at) new.at steps (omega (arith, w.few, new.within, size)) (omega (arith, size)) w.read.reads
