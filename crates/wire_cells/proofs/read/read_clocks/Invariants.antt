use Rattle.std.proofs.Common.{◌+◌, set, replicate}
use Rattle.wire_cells.specs.CellFormat.{bit, ends_at, no_ends}
use Rattle.wire_fields.proofs.Many.{HasRead}
use Rattle.wire_cells.proofs.read.read_clocks.Given as goal

abbrev pub invariant-loop-k : goal.invariant-loop-k
invariant-loop-k l =
    HasRead set (λ k. ends_at (bit l.map (k + 6))) (replicate 6 no_ends) l.k l.ends l.initial.reader l.reader
