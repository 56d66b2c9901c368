use Rattle.std.proofs.Common.{◌≡◌, not, None}
use Rattle.model.specs.Below.{first_bad}
use Rattle.docket_theory.specs.Docket.{can_hold}
use Rattle.docket_theory.specs.Worlds.{row_in}
use Rattle.docket.proofs.entries.Entries.lowest_holder.Given as goal

abbrev pub invariant-loop-h : goal.invariant-loop-h
invariant-loop-h g l =
    first_bad l.h (λ h. not (can_hold g.S.ClockSet.calls l.a l.goal (row_in l.self.rows.now l.self.live h))) ≡ None
