use Rattle.std.proofs.Common.{◌≡◌, true, pos, sym, ap, ◌∙◌, subst}
use Rattle.weight.specs.Limits.{under, up_to, free, limit_leb, limit_plus}
use Rattle.zone_theory.specs.Sets.{canonical_form, within_of}
use Rattle.zone.specs.Exact.{WithinExact}
use Rattle.zone.specs.Zones.{limit_list, zone_within}
use Rattle.zone.specs.Facts.{within_exactly}
use Rattle.zone.proofs.ZoneClockSet.within.Goals as goal

pub returns-then-canonicalize : goal.returns-then-canonicalize
returns-then-canonicalize c =
    let a = c.args.self.now in
    let b = c.args.other.now in
    let form = sym (ap (canonical_form limit_leb limit_plus (up_to (pos 0)) free (under (pos 0))) c.load-m.ensures.same) ∙ c.if-canonicalize.ensures.computed in
    let same : c.is_beneath.result ≡ zone_within a b
    = c.is_beneath.ensures ∙ sym (ap (λ o. within_of limit_leb limit_plus (up_to (pos 0)) free (under (pos 0)) o (limit_list b)) form) in
    record { same = same; exact = subst (WithinExact a b) (sym same) (within_exactly a b) }

pub returns-else-canonicalize : goal.returns-else-canonicalize
returns-else-canonicalize c =
    let a = c.args.self.now in
    let b = c.args.other.now in
    let form = sym (ap (canonical_form limit_leb limit_plus (up_to (pos 0)) free (under (pos 0))) c.load-m.ensures.same) ∙ c.if-canonicalize.ensures.computed in
    let same : true ≡ zone_within a b = sym (ap (λ o. within_of limit_leb limit_plus (up_to (pos 0)) free (under (pos 0)) o (limit_list b)) form) in
    record { same = same; exact = subst (WithinExact a b) (sym same) (within_exactly a b) }
