use Rattle.std.proofs.Common.{◌≡◌, map, drop}
use Rattle.wire.specs.Files.{entry_seen}
use Rattle.judging.specs.Cases.{case_plan, case_world}
use Rattle.judging.specs.Judge.{lodge_all}
use Rattle.judging.proofs.Case.lodge_all.Given as goal

abbrev pub invariant-loop-entry : goal.invariant-loop-entry
invariant-loop-entry g l =
    (l.self.model ≡ l.initial.self.model)
    × (lodge_all g.S.ClockSet.calls (case_plan l.initial.self) (map entry_seen (drop l.entry-index l.cover)) (case_world l.self)
    ≡ lodge_all g.S.ClockSet.calls (case_plan l.initial.self) (map entry_seen l.cover) (case_world l.initial.self))
