use Rattle.std.proofs.Common.{ap, ◌∙◌, to_z-of_z}
use Rattle.zone.specs.Zones.{zone_gap}
use Rattle.kinds_export.specs.Answers.{gap_of, told}
use Rattle.kinds_export.proofs.zones.kinds_zone_gap.Goals as goal

pub returns : goal.returns
returns c =
    let z = c.args.zone.now in
    let g = gap_of c.args.first c.args.second c.args.strict in
    let by-gap = ap (zone_gap z) c.gap_of.ensures ∙ ap (λ k. zone_gap z (g k)) (to_z-of_z c.ranges.constant) in
    c.put.ensures (λ s. s) (λ s t h. h) ∙ ap (told (λ s. s) z) (c.gap-result.ensures.same ∙ by-gap)
