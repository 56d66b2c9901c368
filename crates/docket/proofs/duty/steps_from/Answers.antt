use Rattle.std.proofs.Common.{vec_items, ap, ◌∙◌}
use Rattle.model.specs.Taken.{taken}
use Rattle.docket.proofs.Steps.{steps_or}
use Rattle.docket.proofs.duty.steps_from.Goals as goal

pub returns : goal.returns
returns c =
    let m = c.args.model.now in
    ap taken c.unwrap_or.ensures ∙ steps_or (vec_items m.cells) c.args.cell m.linked c.moves.result c.only.result c.moves.ensures c.only.ensures
