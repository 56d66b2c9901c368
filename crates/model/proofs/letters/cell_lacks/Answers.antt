use Rattle.std.proofs.Common.{rules}
use Rattle.model.specs.Rules.{lacks}
use Rattle.model.proofs.letters.cell_lacks.Goals as goal

pub returns-then-face-cell : goal.returns-then-face-cell
unfolding lacks
returns-then-face-cell c = search rules

pub returns-else-face-cell : goal.returns-else-face-cell
unfolding lacks
returns-else-face-cell c = search rules
