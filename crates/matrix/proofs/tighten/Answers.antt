use Rattle.std.proofs.Common.{◌≡◌, cond, ◌&&◌, eqb, map, length, ap, ◌∙◌, arith}
use Rattle.std.proofs.lemmas.List.{length-map}
use Rattle.weight.specs.Closing.{cell, lesser}
use Rattle.zone_theory.specs.Sets.{tight}
use Rattle.zone_theory.proofs.Tables.{tabled_from}
use Rattle.matrix.proofs.Loops.{tight_none, tight_more, tight_all}
use Rattle.matrix.proofs.tighten.Goals as goal

pub loop-k-init : goal.loop-k-init
loop-k-init g c =
    let w = g.W.Weight in tight_none w.leb w.neutral (cell w.unbounded (map w.value c.args.m.now))

pub loop-k-preserved : goal.loop-k-preserved
loop-k-preserved g c =
    let w = g.W.Weight in
    let k = c.loop-k.k in
    let old = cell w.unbounded (map w.value c.args.m.now) in
    let d = cell w.unbounded (map w.value c.loop-k.m) in
    let e = cell w.unbounded (map w.value c.cut.new.m) in
    let h = cell w.unbounded (map w.value c.cut-in-loop-k.new.m) in
    tight_more w.leb w.neutral old d e h k c.loop-k-test.true c.loop-k.invariant
    (λ x y hx hy. c.cut.ensures x y hx hy ∙ ap (λ b. cond (eqb x 0 && eqb y k) (lesser w.leb (d x y) b) (d x y)) c.neutral_weight.ensures)
    (λ x y hx hy. c.cut-in-loop-k.ensures x y hx hy ∙ ap (λ b. cond (eqb x k && eqb y k) (lesser w.leb (e x y) b) (e x y)) c.neutral_weight-in-loop-k.ensures)

pub returns : goal.returns
returns g c =
    let w = g.W.Weight in
    let old = cell w.unbounded (map w.value c.args.m.now) in
    let xs = map w.value c.loop-k.m in
    let k7 : c.loop-k.k ≡ 7 = omega arith in
    let long : length xs ≡ 49 = simp length-map (omega arith) in
    tabled_from w.unbounded (tight w.leb w.plus w.neutral w.unbounded w.hopeless old) xs long
    (tight_all w.leb w.neutral old (cell w.unbounded xs) (rw k7 at c.loop-k.invariant))
