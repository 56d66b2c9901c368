use Rattle.std.proofs.Common.{◌≡◌}
use Rattle.model.specs.Whole.{plan_of}
use Rattle.docket_theory.specs.Docket.{steps_swept}
use Rattle.docket.specs.declared.docket.Docket.{Docket}
use Rattle.docket.specs.World.{world}
use Rattle.docket.proofs.entries.Entries.sweep_entry.Given as goal

abbrev pub invariant-loop-j : goal.invariant-loop-j
invariant-loop-j g l =
    (d : Docket) → world l.self l.marks d ≡ steps_swept g.S.ClockSet.calls (plan_of l.model) l.i l.j (world l.self l.initial.marks d)
