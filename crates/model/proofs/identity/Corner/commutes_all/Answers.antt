use Rattle.std.proofs.Common.{rules}
use Rattle.model.specs.Rules.{commutes_all}
use Rattle.model.proofs.identity.Corner.commutes_all.Goals as goal

pub returns-then-commutes-3 : goal.returns-then-commutes-3
unfolding commutes_all
returns-then-commutes-3 c = search rules

pub returns-else-commutes-3 : goal.returns-else-commutes-3
unfolding commutes_all
returns-else-commutes-3 c = search rules
