use Rattle.std.proofs.Common.{not, sym, ap, ◌∙◌}
use Rattle.model.proofs.Below.{bad_none, bad_more, bad_stop}
use Rattle.docket.proofs.entries.Entries.lowest_holder.Goals as goal

pub loop-h-init : goal.loop-h-init
loop-h-init g c = bad_none _

pub loop-h-preserved : goal.loop-h-preserved
loop-h-preserved g c = bad_more _ _ c.loop-h.invariant (ap not (sym c.can_hold.ensures ∙ c.if-can_hold.false))

pub returns-then-can_hold : goal.returns-then-can_hold
returns-then-can_hold g c =
    sym (bad_stop _ _ _ c.loop-h-test.true c.loop-h.invariant (ap not (sym c.can_hold.ensures ∙ c.if-can_hold.true)))
