use Rattle.std.proofs.Common.{rules}
use Rattle.model.specs.Rules.{few_ok}
use Rattle.model.proofs.Counts.{moves_length}
use Rattle.model.proofs.few.FewRule.keeps.Goals as goal

pub returns : goal.returns
unfolding few_ok
returns c = let m = moves_length c.args.self.now.0.cells.now c.args.i in search rules
