use Rattle.std.proofs.Common.{rules}
use Rattle.model.specs.Rules.{faces_in}
use Rattle.model.proofs.faces.FacesRule.keeps.Goals as goal

pub returns : goal.returns
unfolding faces_in
returns c = search rules
