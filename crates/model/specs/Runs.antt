-- Runs of a plan, in the words of higher-dimensional timed automata. Nothing here knows the program.
-- A scale s is a whole number from 1, and a tick is one s-th of a unit. A clock count is a number of ticks.
use Rattle.std.specs.Prelude.{◌≡◌, ℕ, suc, ◌*◌, ◌<◌, ◌≤◌, true, false, cond, List, [], ◌∷◌, length, Some, None, Option, slice_index, slice_index_or}
use Rattle.wire.specs.declared.cell.Cell.{Cell}
use Rattle.wire.specs.declared.cell.End.{End}
use Rattle.wire.specs.declared.step.Step.{Step}
use Rattle.wire.specs.declared.step.Step.TheVariants.{Wait, Start, Finish}
use Rattle.clocks.specs.Readings.{Reading, zero_reading, later, in_mask, cleared}
use Rattle.model.specs.Cells.{unbounded, cell_at, face}
use Rattle.model.specs.Plans.{Plan}

-- a cell and what the clocks read in it
abbrev pub Configuration : Type 0
Configuration = ℕ × Reading

-- a count lies on the right side of a low end of b units: b times the scale, itself excluded if the end is open
abbrev pub AboveLow : Option End → ℕ → ℕ → Type 0
AboveLow None s n = Unit {0}
AboveLow (Some e) s n = cond e.open (e.units * s < n) (e.units * s ≤ n)

abbrev pub BelowHigh : Option End → ℕ → ℕ → Type 0
BelowHigh None s n = Unit {0}
BelowHigh (Some e) s n = cond e.open (n < e.units * s) (n ≤ e.units * s)

-- the counts meet the invariant of the cell: each clock lies within its ends
abbrev pub Meets : Cell → ℕ → Reading → Type 0
Meets c s v =
    (i : ℕ) → i < 6 → AboveLow (slice_index_or c.ends i unbounded).low s (slice_index v i) × BelowHigh (slice_index_or c.ends i unbounded).high s (slice_index v i)

-- event k, counted from 1, of cell c is there
abbrev pub HasEvent : Plan → ℕ → ℕ → Type 0
HasEvent p c k = (1 ≤ k) × (k ≤ (cell_at p.cells c).dim)

-- one step at scale s, from a configuration to a configuration
pub data Moves (p : Plan) (s : ℕ) : Configuration → Step → Configuration → Type 0 where
  waits : {c : ℕ} {v : Reading} (n : ℕ) → Meets (cell_at p.cells c) s (later n v) → Moves p s (c, v) (Wait n) (c, later n v)
  starts : {c : ℕ} {v : Reading} (d k : ℕ) → d < length p.cells → HasEvent p d (suc k) → face p.cells false d k ≡ c → Meets (cell_at p.cells d) s (cleared (in_mask (cell_at p.cells c).exits) v) → Moves p s (c, v) (Start d (suc k)) (d, cleared (in_mask (cell_at p.cells c).exits) v)
  finishes : {c : ℕ} {v : Reading} (k : ℕ) → HasEvent p c (suc k) → Meets (cell_at p.cells (face p.cells true c k)) s (cleared (in_mask (cell_at p.cells c).exits) v) → Moves p s (c, v) (Finish (suc k)) (face p.cells true c k, cleared (in_mask (cell_at p.cells c).exits) v)

-- a run at scale s: the configurations that it meets and the steps between them, the newest first
pub data Run (p : Plan) (s : ℕ) : List Configuration → List Step → Type 0 where
  opens : 1 ≤ s → Meets (cell_at p.cells p.first) s zero_reading → Run p s ((p.first, zero_reading) ∷ []) []
  goes : {here there : Configuration} {past : List Configuration} {steps : List Step} (step : Step) → Run p s (here ∷ past) steps → Moves p s here step there → Run p s (there ∷ (here ∷ past)) (step ∷ steps)
