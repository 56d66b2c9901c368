use Rattle.std.proofs.Common.{◌≡◌, map, length, pos, Ok, Err, sym, ap, ◌∙◌, arith}
use Rattle.std.proofs.lemmas.List.{length-map}
use Rattle.std.proofs.lemmas.Bool.{cond-true}
use Rattle.clocks.specs.Gaps.{good_gap}
use Rattle.clockset.specs.Laws.{bad_argument}
use Rattle.weight.specs.Bounds.{limit_of}
use Rattle.weight.specs.Closing.{cell}
use Rattle.weight.specs.Limits.{Limit, under, up_to, free, limit_leb, limit_plus}
use Rattle.zone_theory.specs.Gaps.{gap_limit}
use Rattle.zone_theory.specs.Sets.{tabled, cut_weights}
use Rattle.zone_theory.proofs.Tables.{tabled_from}
use Rattle.zone.proofs.cut_raw.Goals as goal

pub returns : goal.returns
returns c =
    let g = c.args.gap in
    let new = map limit_of c.cut.new.m in
    let by : Limit → _ = λ b. cut_weights limit_leb limit_plus (up_to (pos 0)) free (under (pos 0)) (cell free (map limit_of c.args.m.now)) g.first g.second b in
    let long : length new ≡ 49 = simp length-map (omega arith) in
    let is = tabled_from free (by (limit_of c.bound_of.result)) new long c.cut.ensures in
    cond-true (good_gap g) (Ok (tabled (by (gap_limit g)))) (Err bad_argument) (sym c.if-not-is_good_gap.ensures)
    ∙ ap (λ b. Ok (tabled (by b))) (sym c.bound_of.ensures)
    ∙ ap (λ l. Ok l) (sym is)
