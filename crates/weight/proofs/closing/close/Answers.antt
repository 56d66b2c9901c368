use Rattle.std.proofs.Common.{map, refl}
use Rattle.std.proofs.lemmas.Bool.{both_ways}
use Rattle.weight.proofs.Matrix.{closing_closed, closing_falling, closing_room}
use Rattle.weight.proofs.closing.close.Goals as goal

pub returns-then-run_passes : goal.returns-then-run_passes
returns-then-run_passes g c =
    let w = g.W.Weight in
    let laws = g.met.W.Weight.laws in
    let xs = map w.value c.args.m.now in
    let ys = map w.value c.run_passes.new.m in
    let some = c.if-run_passes.ensures in
    record {
      computed = some;
      closed = closing_closed laws w.unbounded xs ys some;
      sizes = λ _. closing_room laws w.unbounded xs w.size g.met.W.Weight.grows 4194304 c.requires.room ys some;
      emptied = λ e. absurd (both_ways _ e refl);
    }

pub returns-else-run_passes : goal.returns-else-run_passes
returns-else-run_passes g c =
    let w = g.W.Weight in
    let none = c.if-run_passes.ensures in
    record {
      computed = none;
      closed = closing_falling g.met.W.Weight.laws w.unbounded (map w.value c.args.m.now) none;
      sizes = λ e. absurd (both_ways _ refl e);
      emptied = λ _. let e = c.wipe.ensures in cc;
    }
