use Rattle.std.proofs.Common.{map, sym, ap, ◌∙◌}
use Rattle.zone_theory.specs.Sets.{within_of}
use Rattle.matrix.proofs.Loops.{formed_is}
use Rattle.matrix.proofs.within_form.Goals as goal

pub returns-then-canonicalize : goal.returns-then-canonicalize
returns-then-canonicalize g c =
    let w = g.W.Weight in
    let o = c.if-canonicalize.ensures in
    record {
      says = c.is_beneath.ensures ∙ sym (ap (λ o. within_of w.leb w.plus w.neutral w.unbounded w.hopeless o (map w.value c.args.high.now)) o.computed);
      closed = formed_is w.leb w.plus w.neutral w.unbounded w.hopeless (map w.value c.args.low.now) (map w.value c.canonicalize.new.m) _ o.computed o.emptied;
    }

pub returns-else-canonicalize : goal.returns-else-canonicalize
returns-else-canonicalize g c =
    let w = g.W.Weight in
    let o = c.if-canonicalize.ensures in
    record {
      says = sym (ap (λ o. within_of w.leb w.plus w.neutral w.unbounded w.hopeless o (map w.value c.args.high.now)) o.computed);
      closed = formed_is w.leb w.plus w.neutral w.unbounded w.hopeless (map w.value c.args.low.now) (map w.value c.canonicalize.new.m) _ o.computed o.emptied;
    }
