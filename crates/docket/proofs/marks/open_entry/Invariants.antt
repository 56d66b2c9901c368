use Rattle.std.proofs.Common.{◌≡◌, ◌*◌}
use Rattle.docket_theory.specs.Docket.{opened}
use Rattle.docket_theory.specs.Worlds.{steps_per_entry}
use Rattle.docket.proofs.marks.open_entry.Given as goal

abbrev pub invariant-loop-j : goal.invariant-loop-j
invariant-loop-j l = l.marks ≡ opened l.initial.marks (l.i * steps_per_entry) l.j
