use Rattle.wire_cover.specs.CoverFormat.{gaps_at}
use Rattle.wire_fields.proofs.Many.{seen_as_it_is}
use Rattle.wire_cover.proofs.read.read_gaps.Goals as goal

pub returns : goal.returns
unfolding gaps_at
returns c = rw c.from.ensures at (seen_as_it_is _ _ _ _ c.read_many.ensures.reads)
