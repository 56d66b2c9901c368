use Rattle.std.proofs.Common.{sym}
use Rattle.zone.specs.Kept.{kept_ok}
use Rattle.zone.proofs.keep.Goals as goal

pub returns : goal.returns
returns c = kept_ok c.args.bounds (sym c.if-not-all_small.ensures)
