use Rattle.wire.specs.Files.{cells_at}
use Rattle.wire_fields.proofs.Many.{seen_as_it_is}
use Rattle.wire.proofs.files.read_cells.Goals as goal

pub returns-clause-reads : goal.returns-clause-reads
unfolding cells_at
returns-clause-reads c = rw c.from.ensures at (seen_as_it_is _ _ _ _ c.read_many.ensures.reads)
