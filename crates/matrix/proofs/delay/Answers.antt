use Rattle.std.proofs.Common.{◌≡◌, ◌+◌, ◌*◌, ◌<◌, cond, not, ◌&&◌, eqb, map, length, set, ap, ◌∙◌, arith}
use Rattle.std.proofs.lemmas.List.{length-map, map-set}
use Rattle.weight.specs.Closing.{cell}
use Rattle.zone_theory.proofs.Tables.{tabled_from}
use Rattle.matrix.proofs.Loops.{put_cell, free_none, free_more, free_all}
use Rattle.matrix.proofs.delay.Goals as goal

pub loop-i-init : goal.loop-i-init
loop-i-init g c =
    let w = g.W.Weight in
    let old = cell w.unbounded (map w.value c.args.m.now) in
    free_none w.unbounded old old old

pub loop-i-preserved : goal.loop-i-preserved
loop-i-preserved g c =
    let w = g.W.Weight in
    let i = c.loop-i.i in
    let old = cell w.unbounded (map w.value c.args.m.now) in
    let xs = map w.value c.loop-i.m in
    let ys = map w.value (set c.loop-i.m (7 * i) c.args.free) in
    let long : length xs ≡ 49 = simp length-map (omega arith) in
    let at : 7 * i ≡ 7 * i + 0 = omega arith in
    let low : 0 < i = omega arith in
    let put : ys ≡ set xs (7 * i + 0) w.unbounded
    = map-set w.value c.loop-i.m (7 * i) c.args.free ∙ ap (λ p. set xs p (w.value c.args.free)) at ∙ ap (set xs (7 * i + 0)) c.requires.lets in
    free_more w.unbounded old (cell w.unbounded xs) (cell w.unbounded ys) i low c.loop-i.invariant
    (put_cell w.unbounded xs ys i 0 w.unbounded long c.loop-i-test.true (omega arith) put)

pub returns : goal.returns
returns g c =
    let w = g.W.Weight in
    let old = cell w.unbounded (map w.value c.args.m.now) in
    let xs = map w.value c.loop-i.m in
    let i7 : c.loop-i.i ≡ 7 = omega arith in
    let long : length xs ≡ 49 = simp length-map (omega arith) in
    tabled_from w.unbounded (λ i j. cond (not (eqb i 0) && eqb j 0) w.unbounded (old i j)) xs long
    (free_all w.unbounded old (cell w.unbounded xs) old (rw i7 at c.loop-i.invariant))
