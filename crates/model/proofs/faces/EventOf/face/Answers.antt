use Rattle.std.proofs.Common.{◌≡◌}
use Rattle.model.specs.Cells.{face}
use Rattle.model.proofs.Within.{face_within}
use Rattle.model.proofs.faces.EventOf.face.Goals as goal

pub returns-clause-within : goal.returns-clause-within
returns-clause-within c =
    let s = c.args.self.now in
    let e : c.face_of.result ≡ face s.linked.cells.now c.args.upper s.i s.k = cc in
    rw e (face_within s.linked.cells.now c.args.upper s.i s.k s.here s.event s.linked.linked)
