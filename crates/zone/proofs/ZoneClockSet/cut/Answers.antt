use Rattle.std.proofs.Common.{map, refl, rules, sym, ◌∙◌, arith}
use Rattle.std.proofs.lemmas.Iterator.{YieldsList-from_slice}
use Rattle.clockset.specs.Calls.{cut_all}
use Rattle.zone.specs.Zones.{zone_calls}
use borrow.Author.Tests.{tests}
use Rattle.clockset.proofs.Chained.{exit_is, folded}
use Rattle.weight.specs.Bounds.{limit_of}
use Rattle.zone.proofs.Batch.{batch_stops, batch_room, batch_comes}
use Rattle.zone.proofs.ZoneClockSet.cut.Goals as goal

pub returns-in_err-cut_all_raw : goal.returns-in_err-cut_all_raw
returns-in_err-cut_all_raw c =
    exit_is _ _ c.from_residual.ensures.1
    ∙ sym (batch_stops c.args.gaps.now c.args.self.now c.load-m.result c.load-m.ensures.same c.if-is_empty.ensures c.if-not-all_within.ensures _ c.in_err-cut_all_raw.ensures)

pub canonicalize-requires : goal.canonicalize-requires
canonicalize-requires c =
    record {
      long = omega arith;
      room = batch_room c.args.gaps.now c.args.self.now c.load-m.result c.load-m.ensures.same c.if-is_empty.ensures c.if-not-all_within.ensures _ c.in_ok-cut_all_raw.ensures;
      start = omega arith;
    }

pub returns : goal.returns
returns c =
    batch_comes c.args.gaps.now c.args.self.now c.load-m.result c.load-m.ensures.same c.if-is_empty.ensures c.if-not-all_within.ensures (map limit_of c.cut_all_raw.new.m)
    c.canonicalize.new.m c.canonicalize.result c.in_ok-cut_all_raw.ensures c.canonicalize.ensures.computed c.canonicalize.ensures.emptied

pub returns-then-is_empty : goal.returns-then-is_empty
returns-then-is_empty c =
    folded c.try_fold.new.self _ c.args.self.now c.try_fold.result c.try_fold.ensures.ran (YieldsList-from_slice c.args.gaps.now cc) (cut_all zone_calls) (λ x a. zone_calls.gap a x) (λ w. refl) (λ x xs w. refl) (λ w x r q h. search (rules, tests))
