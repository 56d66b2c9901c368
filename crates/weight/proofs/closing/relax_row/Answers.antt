use Rattle.std.proofs.Common.{◌≡◌, ℕ, ◌+◌, ◌*◌, map, length, get_or, sym, ◌∙◌, arith}
use Rattle.std.proofs.lemmas.List.{get_or-map, length-map, map-set}
use Rattle.weight.specs.Closing.{cell, relaxed}
use Rattle.weight.proofs.Rows.{read_value, row_ahead, row_more, row_all}
use Rattle.weight.proofs.closing.relax_row.Goals as goal

pub sum-requires : goal.sum-requires
sum-requires g c =
    let w = g.W.Weight in
    let j = c.loop-j.j in
    let row = c.args.row.now in
    let via = read_value w.value w.unbounded c.args.m.now (7 * c.args.i + c.args.k) c.index-m-i.result (omega arith) c.index-m-i.is in
    let next = sym (get_or-map w.value row j c.index-row-j.result w.unbounded (omega arith)) in
    rw (via, next) (c.requires.room j c.loop-j-test.true)

pub loop-j-preserved : goal.loop-j-preserved
loop-j-preserved g c =
    let w = g.W.Weight in
    let k = c.args.k in
    let i = c.args.i in
    let j = c.loop-j.j in
    let old = cell w.unbounded (map w.value c.args.m.now) in
    let row : ℕ → w.Value = λ y. get_or (map w.value c.args.row.now) y w.unbounded in
    let xs = map w.value c.loop-j.m in
    let hi = c.requires.place in
    let hj = c.loop-j-test.true in
    let ahead = row_ahead w.leb w.plus old row k i hi (cell w.unbounded xs) j c.loop-j.invariant hj in
    let via = read_value w.value w.unbounded c.args.m.now (7 * i + k) c.index-m-i.result (omega arith) c.index-m-i.is in
    let next = get_or-map w.value c.args.row.now j c.index-row-j.result w.unbounded (omega arith) in
    let here = read_value w.value w.unbounded c.loop-j.m (7 * i + j) c.index-m-i-in-loop-j.result (omega arith) c.index-m-i-in-loop-j.is ∙ ahead in
    let long : length xs ≡ 49 = simp length-map (omega arith) in
    let new : w.value c.lesser_of.result ≡ relaxed w.leb w.plus old row k i j = cc in
    row_more w.leb w.plus old row k i hi w.unbounded xs _ j (w.value c.lesser_of.result) long hj c.loop-j.invariant new
    (map-set w.value c.loop-j.m (7 * i + j) c.lesser_of.result)

pub returns : goal.returns
returns g c =
    let w = g.W.Weight in
    let old = cell w.unbounded (map w.value c.args.m.now) in
    let row : ℕ → w.Value = λ y. get_or (map w.value c.args.row.now) y w.unbounded in
    let d = cell w.unbounded (map w.value c.loop-j.m) in
    let j7 : c.loop-j.j ≡ 7 = omega arith in
    row_all w.leb w.plus old row c.args.k c.args.i c.requires.place d (rw j7 at c.loop-j.invariant)
