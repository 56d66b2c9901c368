use Rattle.order_set.specs.Facts.{canonical}
use Rattle.order_set.proofs.order_canonical_stands.Goals as goal

pub returns : goal.returns
returns c = canonical
