use Rattle.std.proofs.Common.{◌≡◌, ℕ, ◌<◌, map, length, get_or, arith}
use Rattle.std.proofs.lemmas.List.{length-map}
use Rattle.weight.specs.Closing.{cell}
use Rattle.weight.proofs.Matrix.{one_pass_from}
use Rattle.weight.proofs.Rows.{row_fits, rows_ahead, rows_more, rows_all}
use Rattle.weight.proofs.closing.pass.Goals as goal

pub relax_row-requires : goal.relax_row-requires
relax_row-requires g c =
    let w = g.W.Weight in
    let old = cell w.unbounded (map w.value c.args.m.now) in
    let d = cell w.unbounded (map w.value c.loop-i.m) in
    let k = c.args.k in
    let i = c.loop-i.i in
    let hi : i < 7 = omega arith in
    let hk = c.requires.via in
    let via = rows_ahead w.leb w.plus old k hk d i k c.loop-i.invariant hi hk in (
      row_fits _ _ c.requires.long c.well_formed.0.1,
      (
        omega arith,
        (
          hi,
          (
            hk,
            λ j hj. rw (via, c.row_of-row.ensures j hj) (omega (arith, c.requires.room i k hi hk, c.requires.room k j hk hj)),
          ),
        ),
      ),
    )

pub loop-i-preserved : goal.loop-i-preserved
loop-i-preserved g c =
    let w = g.W.Weight in
    let old = cell w.unbounded (map w.value c.args.m.now) in
    let d = cell w.unbounded (map w.value c.loop-i.m) in
    let e = cell w.unbounded (map w.value c.relax_row.new.m) in
    let row : ℕ → w.Value = λ y. get_or (map w.value c.row_of-row.result) y w.unbounded in
    let hi : c.loop-i.i < 7 = omega arith in
    rows_more w.leb w.plus old c.args.k c.requires.via d e row c.loop-i.i hi c.loop-i.invariant c.row_of-row.ensures c.relax_row.ensures

pub returns : goal.returns
returns g c =
    let w = g.W.Weight in
    let xs = map w.value c.args.m.now in
    let ys = map w.value c.loop-i.m in
    let i7 : c.loop-i.i ≡ 7 = omega arith in
    let long : length ys ≡ 49 = simp length-map (omega arith) in
    one_pass_from w.leb w.plus w.unbounded c.args.k xs ys long
    (rows_all w.leb w.plus (cell w.unbounded xs) c.args.k c.requires.via (cell w.unbounded ys) (rw i7 at c.loop-i.invariant))
