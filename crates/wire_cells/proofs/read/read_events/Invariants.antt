use Rattle.std.proofs.Common.{set, replicate}
use Rattle.wire_cells.specs.CellFormat.{event_at, no_event}
use Rattle.wire_fields.proofs.Many.{HasRead}
use Rattle.wire_cells.proofs.read.read_events.Given as goal

abbrev pub invariant-loop-k : goal.invariant-loop-k
invariant-loop-k l = HasRead set (λ _. event_at) (replicate 4 no_event) l.k l.events l.initial.reader l.reader
