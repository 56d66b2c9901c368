use Rattle.std.proofs.Common.{ap, ◌∙◌}
use Rattle.clockset.specs.Calls.{cut_all}
use Rattle.images.proofs.Gathered.{cut_gaps}
use Rattle.images.proofs.images.cut_by.Goals as goal

pub returns : goal.returns
returns g c =
    let k = g.S.ClockSet.calls in
    c.cut.ensures ∙ ap (λ gs. cut_all k gs c.args.a.now) (c.gaps.ensures ∙ c.gaps_of-gaps.ensures) ∙ cut_gaps k c.args.cell.now 6 c.args.a.now
