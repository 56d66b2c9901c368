use Rattle.std.proofs.Common.{◌≡◌, ◌-◌, ◌<◌, arith}
use Rattle.model.specs.Cells.{cell_at, face}
use Rattle.model.proofs.Within.{face_dim}
use Rattle.model.proofs.identity.Corner.commutes.Goals as goal

pub event-requires-2-clause-event : goal.event-requires-2-clause-event
event-requires-2-clause-event c =
    let s = c.args.self.now in
    let e = s.event in
    let d = face_dim e.linked.cells.now c.args.b e.i e.k e.here e.event s.lettered in
    let lt : c.args.k < (cell_at e.linked.cells.now (face e.linked.cells.now c.args.b e.i e.k)).dim = omega (arith, d, c.requires) in
    rw c.face-outer.ensures.is lt

pub event-requires-3-clause-event : goal.event-requires-3-clause-event
event-requires-3-clause-event c =
    let s = c.args.self.now in
    let e = s.event in
    let here : c.args.k < (cell_at s.event.linked.cells.now s.event.i).dim = omega (arith, e.event, c.requires) in
    let d = face_dim e.linked.cells.now c.args.a e.i c.args.k e.here here s.lettered in
    let lt : e.k - 1 < (cell_at e.linked.cells.now (face e.linked.cells.now c.args.a e.i c.args.k)).dim = omega (arith, d, e.event, c.requires) in
    let is : c.face-inner.result ≡ face s.event.linked.cells.now c.args.a s.event.i c.args.k = cc in
    rw is lt
