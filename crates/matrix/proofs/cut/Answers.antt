use Rattle.std.proofs.Common.{◌≡◌, ◌+◌, ◌*◌, map, length, arith}
use Rattle.std.proofs.lemmas.List.{length-map, map-set}
use Rattle.weight.specs.Closing.{cell, lesser}
use Rattle.weight.proofs.Rows.{read_value}
use Rattle.matrix.proofs.Loops.{put_cell, cut_cell}
use Rattle.matrix.proofs.cut.Goals as goal

pub returns : goal.returns
returns g c =
    let w = g.W.Weight in
    let i = c.args.i in
    let j = c.args.j in
    let xs = map w.value c.args.m.now in
    let r = c.lesser_of.result in
    let long : length xs ≡ 49 = simp length-map (omega arith) in
    let read = read_value w.value w.unbounded c.args.m.now (7 * i + j) c.index-m-i.result (omega arith) c.index-m-i.is in
    let new : w.value r ≡ lesser w.leb (cell w.unbounded xs i j) (w.value c.args.weight) = cc in
    cut_cell w.leb (cell w.unbounded xs) _ i j (w.value c.args.weight) (w.value r) new
    (put_cell w.unbounded xs _ i j (w.value r) long c.requires.row c.requires.column (map-set w.value c.args.m.now (7 * i + j) r))
