use Rattle.std.proofs.Common.{◌-◌, length, vec_items, vec_len}
use Rattle.wire_trail.proofs.Steps.{Walked}
use Rattle.wire_trail.proofs.read.steps_of.Given as goal

abbrev pub invariant-loop-reader : goal.invariant-loop-reader
invariant-loop-reader l = Walked (vec_len l.steps) (vec_items l.steps) l.initial.reader l.reader

abbrev pub decreases-loop-reader : goal.decreases-loop-reader
decreases-loop-reader l = length l.reader.bytes.now - l.reader.at
