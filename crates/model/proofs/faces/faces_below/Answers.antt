use Rattle.std.proofs.Common.{take, ◌∙◌, rules}
use Rattle.std.proofs.lemmas.Iterator.{YieldsList-from_slice}
use Rattle.std.proofs.lemmas.Iterator.Search.{all_from_yields_List}
use Rattle.model.specs.Cells.{blank_event}
use Rattle.model.specs.Rules.{inside_of}
use Rattle.model.proofs.Ranges.{list_all_places}
use Rattle.model.proofs.faces.faces_below.Goals as goal

pub returns : goal.returns
returns c =
    let cell = c.args.cell.now in
    all_from_yields_List (inside_of c.args.n) _ _ c.all.result c.all.ensures.ran (YieldsList-from_slice (take c.args.cell.now.dim c.args.cell.now.events) cc) (λ e b q h. search rules)
    ∙ list_all_places cell.dim (inside_of c.args.n) cell.events blank_event c.events_of.ensures.long
