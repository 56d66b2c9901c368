-- What the calls mean: each accepts exactly when the step relation allows the step within the limits, and lands there.
use Rattle.std.specs.Prelude.{◌≡◌, ℕ, ◌+◌, ◌<◌, ◌≤◌, Some, Ok, Err, Result, slice_index}
use Rattle.slip.specs.declared.Slip.{Slip}
use Rattle.wire.specs.declared.step.Step.{Step}
use Rattle.wire.specs.declared.step.Step.TheVariants.{Wait, Start, Finish}
use Rattle.model.specs.Cells.{cell_at}
use Rattle.clocks.specs.Readings.{zero_reading}
use Rattle.model.specs.Runs.{Configuration, Meets, Moves}
use Rattle.model.specs.Plans.{Plan}
use Rattle.trail.specs.declared.position.Position.{Position}
use Rattle.trail.specs.declared.position.Trail.{Trail}

abbrev pub configuration : Position → Configuration
configuration p = (p.cell, p.counts)

-- the ticks that a step waits
abbrev pub waits : Step → ℕ
waits (Wait n) = n
waits (Start d k) = 0
waits (Finish k) = 0

-- a wait takes no count and no elapsed time past 1,000,000,000
abbrev pub Bounded : Step → Position → Type 0
Bounded (Wait n) p = ((i : ℕ) → i < 6 → slice_index p.counts i + n ≤ 1000000000) × (p.elapsed + n ≤ 1000000000)
Bounded (Start d k) p = Unit {0}
Bounded (Finish k) p = Unit {0}

-- the model allows the step from p to q within the limits; the scale stays and elapsed adds up the waits
pub record Goes (m : Plan) (step : Step) (p q : Position) : Type 0 where
  pub moves : Moves m p.scale (configuration p) step (configuration q)
  pub bounded : Bounded step p
  pub scale : q.scale ≡ p.scale
  pub elapsed : q.elapsed ≡ p.elapsed + waits step

-- an accepted step was allowed, and the trail is where it leads; a refused one was not allowed, and the trail stays
abbrev pub Walks : Plan → Step → Trail → Result (Unit {0}) Slip → Trail → Type 0
Walks m step t (Ok x) u = (p : Position) × (q : Position) × (t.position ≡ Some p) × (u.position ≡ Some q) × Goes m step p q
Walks m step t (Err e) u = (u ≡ t) × ((p q : Position) → t.position ≡ Some p → Goes m step p q → ⊥)

-- setting out is accepted exactly at a scale from 1 to 1,000 at which the run opens
abbrev pub Opens : Plan → ℕ → Type 0
Opens m s = (1 ≤ s) × (s ≤ 1000) × Meets (cell_at m.cells m.first) s zero_reading

abbrev pub SetsOut : Plan → ℕ → Trail → Result (Unit {0}) Slip → Trail → Type 0
SetsOut m s t (Ok x) u = Opens m s × (u.position ≡ Some (record { cell = m.first; counts = zero_reading; scale = s; elapsed = 0 }))
SetsOut m s t (Err e) u = (u ≡ t) × (Opens m s → ⊥)
