use Rattle.docket.proofs.Sweeps.{settled_stays}
use Rattle.docket.proofs.entries.Entries.sweep_step.Goals as goal

pub returns-else-mark_at : goal.returns-else-mark_at
returns-else-mark_at g c = settled_stays c.args.marks.now _ _ _ c.mark_at.ensures c.if-mark_at.false
