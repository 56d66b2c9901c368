use Rattle.std.proofs.Common.{ap, ◌∙◌}
use Rattle.clockset.specs.Calls.{cut_all}
use Rattle.images.specs.Departures.{closed_form}
use Rattle.images.proofs.Gathered.{cut_gaps}
use Rattle.images.proofs.images.cut_closed_by.Goals as goal

pub returns : goal.returns
returns g c =
    let k = g.S.ClockSet.calls in
    let f = g.S.ClosedForms.closings in
    c.cut_closed.ensures
    ∙ ap (λ gs. closed_form f (cut_all k gs c.args.a.now)) (c.gaps.ensures ∙ c.gaps_of-gaps.ensures)
    ∙ ap (closed_form f) (cut_gaps k c.args.cell.now 6 c.args.a.now)
