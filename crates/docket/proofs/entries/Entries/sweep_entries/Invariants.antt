use Rattle.std.proofs.Common.{◌≡◌}
use Rattle.model.specs.Whole.{plan_of}
use Rattle.docket_theory.specs.Docket.{entries_swept}
use Rattle.docket.specs.declared.docket.Docket.{Docket}
use Rattle.docket.specs.World.{world}
use Rattle.docket.proofs.entries.Entries.sweep_entries.Given as goal

abbrev pub invariant-loop-i : goal.invariant-loop-i
invariant-loop-i g l =
    (d : Docket) → world l.self l.marks d ≡ entries_swept g.S.ClockSet.calls (plan_of l.model) l.i (world l.self l.initial.marks d)
