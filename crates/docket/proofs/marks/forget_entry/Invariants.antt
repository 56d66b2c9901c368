use Rattle.std.proofs.Common.{◌≡◌, ◌++◌, map, take, drop}
use Rattle.docket_theory.specs.Docket.{forget}
use Rattle.docket.proofs.marks.forget_entry.Given as goal

abbrev pub invariant-loop-mark : goal.invariant-loop-mark
invariant-loop-mark l =
    l.marks ≡ map (forget l.number) (take l.mark-index l.initial.marks) ++ drop l.mark-index l.initial.marks
