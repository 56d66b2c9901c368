use Rattle.std.proofs.Common.{◌≡◌, ◌<◌, ◌≤◌, List, length, take, vec_items, ap, ◌∙◌, arith}
use Rattle.std.proofs.lemmas.List.{take_all}
use Rattle.std.proofs.lemmas.Bool.{leb-true, lt-ltb}
use Rattle.wire.specs.declared.cell.Cell.{Cell}
use Rattle.model.specs.Outgoing.{moves_out}
use Rattle.model.specs.Rules.{few_ok}
use Rattle.model.specs.Taken.{taken, capped}
use Rattle.model.proofs.Below.{all_at}
use Rattle.model.proofs.accepted.Model.moves.Goals as goal

pub returns-then-i-len : goal.returns-then-i-len
unfolding few_ok capped
returns-then-i-len c =
    let m = c.args.self.now in
    let cells = vec_items c.args.self.now.cells in
    let lt : c.args.i < length (vec_items c.args.self.now.cells) = omega (arith, m.cells.ok.0, c.len.ensures, c.if-i-len.true) in
    let few : length (moves_out (vec_items c.args.self.now.cells) c.args.i) ≤ 16 = leb-true _ _ (all_at (length cells) c.args.i (few_ok cells) m.few lt) in
    let e : taken c.moves_out.result ≡ moves_out (vec_items c.args.self.now.cells) c.args.i =
    c.moves_out.ensures ∙ ap (λ (cs : List Cell). take 16 (moves_out cs c.args.i)) c.deref.ensures.value ∙ take_all 16 _ few in
    rw (lt-ltb _ _ lt, e)
