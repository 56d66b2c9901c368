use Rattle.std.proofs.Common.{◌≡◌, take, sym, ap, ◌∙◌, arith}
use Rattle.images.specs.Gaps.{gathered, gaps_to}
use Rattle.images.proofs.Gathered.{two_more, gaps_next, all_taken}
use Rattle.images.proofs.gaps.gaps_of.Goals as goal

pub loop-n-init : goal.loop-n-init
unfolding gaps_to
loop-n-init c = c.none-gaps.ensures

pub loop-n-preserved : goal.loop-n-preserved
loop-n-preserved c =
    two_more 12 (gaps_to c.args.cell.now c.loop-n.n) _ _ (gathered c.loop-n.gaps) (gathered c.push.new.self) (gathered c.push-in-loop-n.new.self) c.loop-n.invariant
    (rw c.low_gap.ensures at c.push.ensures) (rw c.high_gap.ensures at c.push-in-loop-n.ensures)
    ∙ ap (take 12) (sym (gaps_next c.args.cell.now c.loop-n.n))

pub returns : goal.returns
returns c =
    let n6 : c.loop-n.n ≡ 6 = omega arith in
    c.loop-n.invariant ∙ ap (λ n. take 12 (gaps_to c.args.cell.now n)) n6 ∙ all_taken c.args.cell.now
