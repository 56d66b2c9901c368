-- What each call makes of a trail: its result and the trail afterwards. A refused call leaves the trail as it stood; its place is
-- the trail's cell, or 0 where there is no trail. Each call tests its refusals in the order of their numbers.
use Rattle.std.specs.Prelude.{ℕ, ◌+◌, ◌-◌, Bool, true, false, cond, ◌&&◌, length, Some, None, Ok, Err, Option, Result, ◌==◌, nat_le, nat_lt}
use Rattle.slip.specs.declared.Refusal.{Refusal}
use Rattle.slip.specs.declared.Refusal.TheVariants.{Unknown, BadScale, NoTrail, NotThere, CountTooLarge, NoConfiguration}
use Rattle.slip.specs.declared.Slip.{Slip}
use Rattle.model.specs.Cells.{cell_at, face}
use Rattle.wire.specs.declared.step.Step.{Step}
use Rattle.wire.specs.declared.step.Step.TheVariants.{Wait, Start, Finish}
use Rattle.clocks.specs.Readings.{zero_reading, later, in_mask, cleared}
use Rattle.model.specs.Plans.{Plan}
use Rattle.trail.specs.declared.position.Position.{Position}
use Rattle.trail.specs.declared.position.Trail.{Trail}
use Rattle.trail.specs.Tests.{meets, fits}

-- where a call leads: a position, or the slip that refuses it
abbrev pub Target : Type 0
Target = Result Position Slip

abbrev pub Outcome : Type 0
Outcome = Result (Unit {0}) Slip × Trail

abbrev pub outcome : Target → Trail → Outcome
outcome (Ok p) t = (Ok tt, record { position = Some p })
outcome (Err e) t = (Err e, t)

abbrev pub cell_or : Option Position → ℕ
cell_or None = 0
cell_or (Some p) = p.cell

-- the trail's cell, or 0
abbrev pub place_of : Trail → ℕ
place_of t = cell_or t.position

abbrev pub slip_at : Refusal → Trail → Slip
slip_at r t = record { refusal = r; place = place_of t }

abbrev pub from_position : Option Position → Trail → (Position → Target) → Target
from_position None t f = Err (slip_at NoTrail t)
from_position (Some p) t f = f p

-- a call that needs a trail
abbrev pub on_trail : Trail → (Position → Target) → Target
on_trail t f = from_position t.position t f

-- to p, if that is a configuration
abbrev pub landing : Plan → Position → Trail → Target
landing m p t = cond (meets (cell_at m.cells p.cell) p.scale p.counts) (Ok p) (Err (slip_at NoConfiguration t))

abbrev pub opening : Plan → ℕ → Position
opening m s = record { cell = m.first; counts = zero_reading; scale = s; elapsed = 0 }

abbrev pub opening_at : Plan → ℕ → Trail → Target
opening_at m s t = cond (nat_le 1 s && nat_le s 1000) (landing m (opening m s) t) (Err (slip_at BadScale t))

abbrev pub after_wait : ℕ → Position → Position
after_wait n p = record { cell = p.cell; counts = later n p.counts; scale = p.scale; elapsed = p.elapsed + n }

-- no count and no elapsed time passes the limit
abbrev pub room_for : ℕ → Position → Bool
room_for n p = fits n p.counts && nat_le (p.elapsed + n) 1000000000

abbrev pub wait_from : Plan → ℕ → Trail → Position → Target
wait_from m n t p = cond (room_for n p) (landing m (after_wait n p) t) (Err (slip_at CountTooLarge t))

-- into cell d, with the exit set of the cell left at zero
abbrev pub into : Plan → ℕ → Position → Position
into m d p =
    record { cell = d; counts = cleared (in_mask (cell_at m.cells p.cell).exits) p.counts; scale = p.scale; elapsed = p.elapsed }

-- event k, counted from 1, of cell c is there
abbrev pub has_event : Plan → ℕ → ℕ → Bool
has_event m c k = nat_le 1 k && nat_le k (cell_at m.cells c).dim

abbrev pub start_from : Plan → ℕ → ℕ → Trail → Position → Target
start_from m d k t p =
    cond (face m.cells false d (k - 1) == p.cell) (landing m (into m d p) t) (Err (slip_at NotThere t))

abbrev pub start_at : Plan → ℕ → ℕ → Trail → Target
start_at m d k t =
    cond (nat_lt d (length m.cells) && has_event m d k) (on_trail t (start_from m d k t)) (Err (slip_at Unknown t))

abbrev pub finish_from : Plan → ℕ → Trail → Position → Target
finish_from m k t p =
    cond (has_event m p.cell k) (landing m (into m (face m.cells true p.cell (k - 1)) p) t) (Err (slip_at NotThere t))

abbrev pub setting_out : Plan → ℕ → Trail → Outcome
setting_out m s t = outcome (opening_at m s t) t

abbrev pub waited : Plan → ℕ → Trail → Outcome
waited m n t = outcome (on_trail t (wait_from m n t)) t

abbrev pub started : Plan → ℕ → ℕ → Trail → Outcome
started m d k t = outcome (start_at m d k t) t

abbrev pub finished : Plan → ℕ → Trail → Outcome
finished m k t = outcome (on_trail t (finish_from m k t)) t

-- any one step
abbrev pub stepped : Plan → Step → Trail → Outcome
stepped m (Wait n) t = waited m n t
stepped m (Start d k) t = started m d k t
stepped m (Finish k) t = finished m k t
