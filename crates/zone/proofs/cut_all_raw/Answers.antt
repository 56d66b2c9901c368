use Rattle.std.proofs.Common.{map, sym, refl, ◌∙◌}
use Rattle.clockset.proofs.Chained.{chain_more, chain_stop, chain_end, exit_then}
use Rattle.weight.specs.Bounds.{limit_of}
use Rattle.zone.specs.Zones.{raw_cut, raw_cuts}
use Rattle.zone.proofs.cut_all_raw.Goals as goal

pub loop-gap-init : goal.loop-gap-init
loop-gap-init c = refl

pub loop-gap-preserved : goal.loop-gap-preserved
loop-gap-preserved c =
    chain_more raw_cuts raw_cut (λ w. refl) (λ x xs w. refl) c.args.gaps.now c.loop-gap.gap-index _ (map limit_of c.loop-gap.m)
    (map limit_of c.cut_raw.new.m) _ c.loop-gap-test.true c.loop-gap.invariant c.in_ok-cut_raw.ensures

pub returns-in_err-cut_raw : goal.returns-in_err-cut_raw
returns-in_err-cut_raw c =
    sym
    (exit_then _ _ _ c.from_residual.ensures.1
    ∙ chain_stop raw_cuts raw_cut (λ w. refl) (λ x xs w. refl) c.args.gaps.now c.loop-gap.gap-index _ (map limit_of c.loop-gap.m) _ _
    c.loop-gap-test.true c.loop-gap.invariant c.in_err-cut_raw.ensures)

pub returns : goal.returns
returns c =
    sym
    (chain_end raw_cuts raw_cut (λ w. refl) (λ x xs w. refl) c.args.gaps.now c.loop-gap.gap-index (map limit_of c.loop-gap.m) _
    c.loop-gap-test.false c.loop-gap.invariant)
