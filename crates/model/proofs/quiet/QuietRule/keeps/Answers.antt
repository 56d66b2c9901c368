use Rattle.std.proofs.Common.{rules}
use Rattle.model.specs.Rules.{quiet_ok}
use Rattle.model.proofs.quiet.QuietRule.keeps.Goals as goal

pub returns-then-cell-eq0 : goal.returns-then-cell-eq0
unfolding quiet_ok
returns-then-cell-eq0 c = search rules

pub returns-after-i-self : goal.returns-after-i-self
unfolding quiet_ok
returns-after-i-self c = search rules
