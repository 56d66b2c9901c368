use Rattle.std.proofs.Common.{◌≡◌, map, pos, Err, sym, refl, ap, ◌∙◌}
use Rattle.std.proofs.lemmas.Bool.{cond-true}
use Rattle.clocks.specs.Gaps.{good_gap}
use Rattle.clockset.specs.Laws.{bad_argument}
use Rattle.weight.specs.Bounds.{limit_of}
use Rattle.weight.specs.Limits.{under, up_to, free, limit_leb, limit_plus}
use Rattle.zone_theory.specs.Gaps.{gap_limit}
use Rattle.zone_theory.specs.Sets.{cut_form}
use Rattle.zone.specs.Zones.{limit_list, kept_zone, zone_gap}
use Rattle.zone.specs.Facts.{gap_stands}
use Rattle.zone.proofs.ZoneClockSet.gap.Goals as goal

pub returns : goal.returns
returns c =
    let g = c.args.gap in
    let ls = cut_form limit_leb limit_plus (up_to (pos 0)) free (under (pos 0)) (limit_list c.args.self.now) g.first g.second (gap_limit g) in
    let is : map limit_of c.cut_form.new.m ≡ ls = c.cut_form.ensures ∙ rw (c.load-m.ensures.same, c.bound_of.ensures) refl in
    let same : c.keep.result ≡ zone_gap c.args.self.now g
    = c.keep.ensures ∙ ap kept_zone is ∙ sym (cond-true (good_gap g) (kept_zone ls) (Err bad_argument) (sym c.if-not-is_good_gap.ensures)) in
    record { same = same; exact = gap_stands c.args.self.now g c.keep.result same }
