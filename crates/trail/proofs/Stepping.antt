-- What the step relation asks of the configuration that a step leaves.
use Rattle.std.proofs.Common.{◌≡◌, ℕ, zero, suc, ◌<◌, true, false, length}
use Rattle.wire.specs.declared.step.Step.{Step}
use Rattle.wire.specs.declared.step.Step.TheVariants.{Wait, Start, Finish}
use Rattle.clocks.specs.Readings.{later, in_mask, cleared}
use Rattle.model.specs.Cells.{cell_at, face}
use Rattle.model.specs.Runs.{Configuration, Meets, Moves, waits, starts, finishes, HasEvent}
use Rattle.model.specs.Plans.{Plan}

-- the counts on entering cell d
abbrev pub Enters : Plan → ℕ → Configuration → ℕ → Type 0
Enters m s here d = Meets (cell_at m.cells d) s (cleared (in_mask (cell_at m.cells here.0).exits) here.1)

abbrev pub Enabled : Plan → ℕ → Configuration → Step → Type 0
Enabled m s here (Wait n) = Meets (cell_at m.cells here.0) s (later n here.1)
Enabled m s here (Start d zero) = ⊥
Enabled m s here (Start d (suc k)) =
    (d < length m.cells) × HasEvent m d (suc k) × (face m.cells false d k ≡ here.0) × Enters m s here d
Enabled m s here (Finish zero) = ⊥
Enabled m s here (Finish (suc k)) = HasEvent m here.0 (suc k) × Enters m s here (face m.cells true here.0 k)

pub enabled : {m : Plan} {s : ℕ} {here there : Configuration} {step : Step} → Moves m s here step there → Enabled m s here step
enabled (waits n h) = h
enabled (starts d k lt event from h) = (lt, event, from, h)
enabled (finishes k event h) = (event, h)
