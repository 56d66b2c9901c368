use Rattle.std.proofs.Common.{ap, ◌∙◌}
use Rattle.model.specs.Whole.{plan_of}
use Rattle.images.specs.Departures.{image_from}
use Rattle.images.proofs.Parted.{image_parts}
use Rattle.images.proofs.images.image_of.Goals as goal

pub returns : goal.returns
returns g c =
    let k = g.S.ClockSet.calls in
    let m = plan_of c.args.model.now in
    let e = c.args.from.now in
    c.image.ensures ∙ ap (λ d. image_from k m e.cell d c.args.step) c.depart.ensures ∙ image_parts k m e c.args.step
