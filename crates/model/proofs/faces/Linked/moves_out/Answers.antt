use Rattle.std.proofs.Common.{◌≡◌, ◌++◌}
use Rattle.model.specs.Cells.{cell_at}
use Rattle.model.specs.Outgoing.{moves_out, finishes}
use Rattle.model.specs.Taken.{taken, capped}
use Rattle.model.proofs.Tables.{table_whole}
use Rattle.model.proofs.faces.Linked.moves_out.Goals as goal

pub returns : goal.returns
unfolding moves_out
returns c =
    let e : taken c.push_finishes.new.moves ≡ capped (taken c.only-moves.result ++ finishes (cell_at c.args.self.now.cells.now c.args.c).dim) = cc in
    table_whole c.only-moves.result c.push_finishes.new.moves c.push_starts.new.moves _ _ c.only-moves.ensures e c.push_starts.ensures
