-- The calls against the step relation: accepted exactly when it allows the step within the limits.
use Rattle.std.proofs.Common.{◌≡◌, ℕ, zero, suc, ◌+◌, ◌-◌, ◌<◌, ◌≤◌, Bool, true, false, cond, ◌&&◌, eqb, ltb, leb, length, get_or, Some, None, Ok, Err, Option, Result, sym, refl, subst, arith}
use Rattle.std.proofs.lemmas.Bool.{and_from, and_parts, ltb-true, lt-ltb, leb-true, le-leb, eqb-true, eq-eqb, both_ways}
use Rattle.slip.specs.declared.Refusal.TheVariants.{NotThere, CountTooLarge, NoConfiguration, BadScale, Unknown}
use Rattle.slip.specs.declared.Slip.{Slip}
use Rattle.wire.specs.declared.step.Step.{Step}
use Rattle.wire.specs.declared.step.Step.TheVariants.{Wait, Start, Finish}
use Rattle.clocks.specs.Readings.{zero_reading}
use Rattle.model.specs.Cells.{cell_at, face}
use Rattle.model.specs.Runs.{Meets, waits, starts, finishes, HasEvent}
use Rattle.model.specs.Plans.{Plan}
use Rattle.trail.specs.declared.position.Position.{Position}
use Rattle.trail.specs.declared.position.Trail.{Trail}
use Rattle.trail.specs.Calls.{Target, outcome, landing, on_trail, from_position, opening, after_wait, room_for, wait_from, into, has_event, start_from, finish_from, slip_at, setting_out, waited, started, finished}
use Rattle.trail.specs.Tests.{meets, fits}
use Rattle.trail.specs.Walks.{Goes, Walks, SetsOut}
use Rattle.trail.proofs.Counts.{fits_at, fits_all}
use Rattle.trail.proofs.Meeting.{meets_true, meets_all}
use Rattle.trail.proofs.Stepping.{enabled}

-- where a target leads
abbrev Leads : Plan → Step → Trail → Target → Type 0
Leads m step t x = Walks m step t (outcome x t).0 (outcome x t).1

abbrev MeetsAt : Plan → Position → Type 0
MeetsAt m q = Meets (cell_at m.cells q.cell) q.scale q.counts

-- a call that leads from p to q if a test passes and q is a configuration
leads : (m : Plan) (step : Step) (t : Trail) (p q : Position) (b : Bool) (e : Slip) → t.position ≡ Some p → (b ≡ true → MeetsAt m q → Goes m step p q) → ((r : Position) → Goes m step p r → (b ≡ true) × MeetsAt m q) → Leads m step t (cond b (landing m q t) (Err e))
leads m step t p q b e at sound sure = tested b refl
  where
    same : (r : Position) → t.position ≡ Some r → r ≡ p
    same r h = cc

    refuse : (x : Slip) → ((r : Position) → Goes m step p r → ⊥) → Leads m step t (Err x)
    refuse x never = (refl, λ r u h g. never u (subst (λ (y : Position). Goes m step y u) (same r h) g))

    landed : (c : Bool) → meets (cell_at m.cells q.cell) q.scale q.counts ≡ c → b ≡ true → Leads m step t (cond c (Ok q) (Err (slip_at NoConfiguration t)))
    landed true is ok = (p, q, at, refl, sound ok (meets_true _ _ _ is))
    landed false is ok = refuse (slip_at NoConfiguration t) (λ r g. both_ways _ is (meets_all _ _ _ (sure r g).1))

    tested : (c : Bool) → b ≡ c → Leads m step t (cond c (landing m q t) (Err e))
    tested true is = landed (meets (cell_at m.cells q.cell) q.scale q.counts) refl is
    tested false is = refuse e (λ r g. both_ways _ is (sure r g).0)

-- a call that needs a trail
from_trail : (m : Plan) (step : Step) (t : Trail) (f : Position → Target) → ((p : Position) → t.position ≡ Some p → Leads m step t (f p)) → Leads m step t (on_trail t f)
from_trail m step t f each = by t.position refl
  where
    by : (o : Option Position) → t.position ≡ o → Leads m step t (from_position o t f)
    by None is = (refl, λ p q h g. cc)
    by (Some p) is = each p is

event_true : (m : Plan) (c k : ℕ) → has_event m c k ≡ true → HasEvent m c k
event_true m c k h = let p = and_parts (leb 1 k) (leb k (cell_at m.cells c).dim) h in (leb-true _ _ p.0, leb-true _ _ p.1)

event_all : (m : Plan) (c k : ℕ) → HasEvent m c k → has_event m c k ≡ true
event_all m c k h = and_from (leb 1 k) (leb k (cell_at m.cells c).dim) (le-leb _ _ h.0) (le-leb _ _ h.1)

pub wait_walks : (m : Plan) (n : ℕ) (t : Trail) → Walks m (Wait n) t (waited m n t).0 (waited m n t).1
wait_walks m n t =
    from_trail m (Wait n) t (wait_from m n t)
    (λ p at. leads m (Wait n) t p (after_wait n p) (room_for n p) (slip_at CountTooLarge t) at (λ ok h. record { moves = waits n h; bounded = room p ok; scale = refl; elapsed = refl }) (λ r g. (fill p g.bounded, enabled g.moves)))
  where
    room : (p : Position) → room_for n p ≡ true → ((i : ℕ) → i < 6 → get_or p.counts i 0 + n ≤ 1000000000) × (p.elapsed + n ≤ 1000000000)
    room p ok = let b = and_parts (fits n p.counts) (leb (p.elapsed + n) 1000000000) ok in ((λ i lt. fits_at n p.counts i b.0 lt), leb-true _ _ b.1)

    fill : (p : Position) → ((i : ℕ) → i < 6 → get_or p.counts i 0 + n ≤ 1000000000) × (p.elapsed + n ≤ 1000000000) → room_for n p ≡ true
    fill p h = and_from (fits n p.counts) (leb (p.elapsed + n) 1000000000) (fits_all n p.counts h.0) (le-leb _ _ h.1)

-- the index of event k, counted from 1
index : (j : ℕ) → suc j - 1 ≡ j
index j = omega arith

pub finish_walks : (m : Plan) (k : ℕ) (t : Trail) → Walks m (Finish k) t (finished m k t).0 (finished m k t).1
finish_walks m zero t =
    from_trail m (Finish zero) t (finish_from m zero t)
    (λ p at. leads m (Finish zero) t p (into m (face m.cells true p.cell (zero - 1)) p) (has_event m p.cell zero) (slip_at NotThere t) at (λ ok h. absurd (omega (arith, (event_true m p.cell zero ok).0))) (λ r g. absurd (enabled g.moves)))
finish_walks m (suc j) t =
    from_trail m (Finish (suc j)) t (finish_from m (suc j) t)
    (λ p at. rw (index j) (leads m (Finish (suc j)) t p (into m (face m.cells true p.cell j) p) (has_event m p.cell (suc j)) (slip_at NotThere t) at (λ ok h. record { moves = finishes j (event_true m p.cell (suc j) ok) h; bounded = tt; scale = refl; elapsed = omega arith }) (λ r g. (event_all m p.cell (suc j) (enabled g.moves).0, (enabled g.moves).1))))

-- a start by event j + 1 of a cell that has it
start_there : (m : Plan) (d j : ℕ) (t : Trail) → d < length m.cells → HasEvent m d (suc j) → Leads m (Start d (suc j)) t (on_trail t (start_from m d (suc j) t))
start_there m d j t lt event =
    from_trail m (Start d (suc j)) t (start_from m d (suc j) t)
    (λ p at. rw (index j) (leads m (Start d (suc j)) t p (into m d p) (eqb (face m.cells false d j) p.cell) (slip_at NotThere t) at (λ ok h. record { moves = starts d j lt event (eqb-true _ _ ok) h; bounded = tt; scale = refl; elapsed = omega arith }) (λ r g. (eq-eqb _ _ (enabled g.moves).2, (enabled g.moves).3))))

pub start_walks : (m : Plan) (d k : ℕ) (t : Trail) → Walks m (Start d k) t (started m d k t).0 (started m d k t).1
start_walks m d k t = by k (ltb d (length m.cells) && has_event m d k) refl
  where
    by : (k : ℕ) (b : Bool) → (ltb d (length m.cells) && has_event m d k) ≡ b → Leads m (Start d k) t (cond b (on_trail t (start_from m d k t)) (Err (slip_at Unknown t)))
    by zero true is = absurd (omega (arith, (event_true m d zero (and_parts (ltb d (length m.cells)) (has_event m d zero) is).1).0))
    by zero false is = (refl, λ p q h g. enabled g.moves)
    by (suc j) true is =
        let b = and_parts (ltb d (length m.cells)) (has_event m d (suc j)) is in
        start_there m d j t (ltb-true _ _ b.0) (event_true m d (suc j) b.1)
    by (suc j) false is =
        (refl, λ p q h g. both_ways _ is (and_from _ _ (lt-ltb _ _ (enabled g.moves).0) (event_all m d (suc j) (enabled g.moves).1)))

abbrev Outset : Plan → ℕ → Trail → Target → Type 0
Outset m s t x = SetsOut m s t (outcome x t).0 (outcome x t).1

pub set_out_opens : (m : Plan) (s : ℕ) (t : Trail) → SetsOut m s t (setting_out m s t).0 (setting_out m s t).1
set_out_opens m s t = scaled (leb 1 s && leb s 1000) refl
  where
    landed : (c : Bool) → meets (cell_at m.cells m.first) s zero_reading ≡ c → (leb 1 s && leb s 1000) ≡ true → Outset m s t (cond c (Ok (opening m s)) (Err (slip_at NoConfiguration t)))
    landed true is ok =
        let b = and_parts (leb 1 s) (leb s 1000) ok in ((leb-true _ _ b.0, leb-true _ _ b.1, meets_true _ _ _ is), refl)
    landed false is ok = (refl, λ o. both_ways _ is (meets_all _ _ _ o.2))

    scaled : (c : Bool) → (leb 1 s && leb s 1000) ≡ c → Outset m s t (cond c (landing m (opening m s) t) (Err (slip_at BadScale t)))
    scaled true is = landed (meets (cell_at m.cells m.first) s zero_reading) refl is
    scaled false is = (refl, λ o. both_ways _ is (and_from _ _ (le-leb _ _ o.0) (le-leb _ _ o.1)))

-- the same of a result and a trail that are what the definition says
pub walks_as : (m : Plan) (step : Step) (t u : Trail) (r : Result (Unit {0}) Slip) (o : Result (Unit {0}) Slip × Trail) → ◌≡◌ {A = Result (Unit {0}) Slip × Trail} (r, u) o → Walks m step t o.0 o.1 → Walks m step t r u
walks_as m step t u r o e h = subst (λ (x : Result (Unit {0}) Slip × Trail). Walks m step t x.0 x.1) (sym e) h

pub opens_as : (m : Plan) (s : ℕ) (t u : Trail) (r : Result (Unit {0}) Slip) → ◌≡◌ {A = Result (Unit {0}) Slip × Trail} (r, u) (setting_out m s t) → SetsOut m s t r u
opens_as m s t u r e = subst (λ (x : Result (Unit {0}) Slip × Trail). SetsOut m s t x.0 x.1) (sym e) (set_out_opens m s t)
