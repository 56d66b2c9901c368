use Rattle.std.proofs.Common.{Ok, sym, ap, ◌∙◌}
use Rattle.zone.specs.declared.Zone.{Zone}
use Rattle.zone.specs.Forms.{cut_leaves_closed, cut_by_none}
use Rattle.zone.proofs.ZoneClosedForms.cut_closed.Goals as goal

pub returns-then-is_empty : goal.returns-then-is_empty
returns-then-is_empty c =
    ap (λ (z : Zone). Ok z) c.closed.ensures ∙ sym (cut_by_none c.args.gaps.now c.args.self.now c.if-is_empty.ensures)

pub returns : goal.returns
returns c = c.cut.ensures ∙ sym (cut_leaves_closed c.args.gaps.now c.args.self.now c.if-is_empty.ensures)
