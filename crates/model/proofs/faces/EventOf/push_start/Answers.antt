use Rattle.std.proofs.Common.{rules}
use Rattle.model.proofs.Tables.{table_start}
use Rattle.model.proofs.faces.EventOf.push_start.Goals as goal

pub returns-else-face-c : goal.returns-else-face-c
returns-else-face-c c = let e = table_start c.args.moves.now in search rules
