use Rattle.std.proofs.Common.{sym, refl, ap, ◌∙◌}
use Rattle.zone_theory.specs.Sets.{delay_of}
use Rattle.matrix.proofs.delay_form.Goals as goal

pub returns-then-canonicalize : goal.returns-then-canonicalize
returns-then-canonicalize g c =
    let w = g.W.Weight in
    c.delay.ensures ∙ sym (ap (delay_of w.leb w.plus w.neutral w.unbounded w.hopeless) c.if-canonicalize.ensures.computed)

pub returns-else-canonicalize : goal.returns-else-canonicalize
returns-else-canonicalize g c =
    let w = g.W.Weight in
    c.if-canonicalize.ensures.emptied refl ∙ sym (ap (delay_of w.leb w.plus w.neutral w.unbounded w.hopeless) c.if-canonicalize.ensures.computed)
