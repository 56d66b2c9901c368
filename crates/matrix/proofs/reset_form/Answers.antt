use Rattle.std.proofs.Common.{map}
use Rattle.clocks.specs.Readings.{in_mask}
use Rattle.matrix.proofs.Loops.{formed_is, made_reset}
use Rattle.matrix.proofs.reset_form.Goals as goal

pub returns : goal.returns
returns g c =
    let w = g.W.Weight in
    let xs = map w.value c.args.from.now in
    let ys = map w.value c.canonicalize.new.m in
    let o = c.canonicalize.ensures in
    record {
      made =
          made_reset w.leb w.plus w.neutral w.unbounded w.hopeless (in_mask c.args.mask) xs ys (map w.value c.reset.result) c.canonicalize.result o.computed o.emptied c.reset.ensures;
      closed = formed_is w.leb w.plus w.neutral w.unbounded w.hopeless xs ys c.canonicalize.result o.computed o.emptied;
    }
