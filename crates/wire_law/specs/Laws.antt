-- What the formats promise: an accepted file has the bytes of what it was read as, and what fits a file is read back from its bytes.
use Rattle.std.specs.Prelude.{◌≡◌, ℕ, ◌-◌, ◌<◌, ◌≤◌, List, length, drop, replicate, Some, None, Ok, Option}
use Rattle.std.specs.Int.Signed.{mag}
use Rattle.std.specs.List.{AllByRecursion}
use Rattle.clocks.specs.declared.Gap.{Gap}
use Rattle.wire.specs.declared.cell.Event.{Event}
use Rattle.wire.specs.declared.cell.End.{End}
use Rattle.wire.specs.declared.cell.Ends.{Ends}
use Rattle.wire.specs.declared.cell.Cell.{Cell}
use Rattle.wire.specs.declared.step.Step.{Step}
use Rattle.wire.specs.declared.step.Step.TheVariants.{Wait, Start, Finish}
use Rattle.wire.specs.CellFormat.{no_event}
use Rattle.wire.specs.Files.{model_file, trail_file, cover_file}
use Rattle.wire_law.specs.Codes.{model_code, trail_code, cover_code}

abbrev pub Bytes : List ℕ → Type 0
Bytes s = AllByRecursion (λ b. b < 256) s

abbrev pub ModelSpelt : Type 0
ModelSpelt = (s : List ℕ) (first : ℕ) (cells : List Cell) → Bytes s → model_file s ≡ Ok (first, cells) → s ≡ model_code first cells

abbrev pub TrailSpelt : Type 0
TrailSpelt = (s : List ℕ) (scale : ℕ) (steps : List Step) → Bytes s → trail_file s ≡ Ok (scale, steps) → s ≡ trail_code scale steps

abbrev pub CoverSpelt : Type 0
CoverSpelt = (s : List ℕ) (entries : List (ℕ × List Gap)) → Bytes s → cover_file s ≡ Ok entries → s ≡ cover_code entries

abbrev pub EndFits : Option End → Type 0
EndFits None = Unit {0}
EndFits (Some e) = e.units ≤ 9999

abbrev pub EndsFit : Ends → Type 0
EndsFit e = EndFits e.low × EndFits e.high

abbrev pub EventFits : Event → Type 0
EventFits e = (e.lower < 65536) × (e.upper < 65536)

-- four slots for events, blank past the last event, and six clocks
pub record CellFits (c : Cell) : Type 0 where
  pub slots : length c.events ≡ 4
  pub blank : drop c.dim c.events ≡ replicate (4 - c.dim) no_event
  pub faces : AllByRecursion EventFits c.events
  pub exit : c.exits ≤ 63
  pub clocks : length c.ends ≡ 6
  pub ranges : AllByRecursion EndsFit c.ends

abbrev pub StepFits : Step → Type 0
StepFits (Wait n) = n < 4294967296
StepFits (Start c k) = (c < 65536) × (k < 256)
StepFits (Finish k) = k < 256

-- a constant from -16,384 to 16,383
abbrev pub GapFits : Gap → Type 0
GapFits g = (g.first < 256) × (g.second < 256) × (mag g.constant < 16384)

abbrev pub EntryFits : ℕ × List Gap → Type 0
EntryFits e = (e.0 < 65536) × (length e.1 < 256) × AllByRecursion GapFits e.1

-- what an accepted file is read as fits a file
abbrev pub ModelFits : Type 0
ModelFits =
    (s : List ℕ) (first : ℕ) (cells : List Cell) → Bytes s → model_file s ≡ Ok (first, cells)
    → (first < 65536) × (1 ≤ length cells) × (length cells ≤ 200) × AllByRecursion CellFits cells

abbrev pub TrailFits : Type 0
TrailFits =
    (s : List ℕ) (scale : ℕ) (steps : List Step) → Bytes s → trail_file s ≡ Ok (scale, steps) → (scale < 65536) × AllByRecursion StepFits steps

abbrev pub CoverFits : Type 0
CoverFits =
    (s : List ℕ) (entries : List (ℕ × List Gap)) → Bytes s → cover_file s ≡ Ok entries → (length entries ≤ 256) × AllByRecursion EntryFits entries

-- every model whose numbers fit has a file, which is read as that model
abbrev pub ModelRead : Type 0
ModelRead =
    (first : ℕ) (cells : List Cell) → first < 65536 → 1 ≤ length cells → length cells ≤ 200 → AllByRecursion CellFits cells
    → Bytes (model_code first cells) × (model_file (model_code first cells) ≡ Ok (first, cells))

-- and every trail and every cover, unless its file would be too long
abbrev pub TrailRead : Type 0
TrailRead =
    (scale : ℕ) (steps : List Step) → scale < 65536 → AllByRecursion StepFits steps → length (trail_code scale steps) ≤ 60000
    → Bytes (trail_code scale steps) × (trail_file (trail_code scale steps) ≡ Ok (scale, steps))

abbrev pub CoverRead : Type 0
CoverRead =
    (entries : List (ℕ × List Gap)) → length entries ≤ 256 → AllByRecursion EntryFits entries → length (cover_code entries) ≤ 60000
    → Bytes (cover_code entries) × (cover_file (cover_code entries) ≡ Ok entries)
