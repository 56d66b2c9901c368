use Rattle.std.proofs.Common.{map, arith}
use Rattle.weight.specs.Closing.{cell}
use Rattle.zone_theory.specs.Sets.{cut_weights}
use Rattle.matrix.proofs.Loops.{cut_room, made_form}
use Rattle.matrix.proofs.cut_form.Goals as goal

pub canonicalize-requires : goal.canonicalize-requires
canonicalize-requires g c =
    let w = g.W.Weight in
    record {
      long = omega arith;
      room =
          cut_room w.leb w.plus w.neutral w.unbounded w.hopeless w.size 4194304 (map w.value c.args.m.now) (map w.value c.cut.new.m) c.args.i c.args.j (w.value c.args.weight) c.requires.room c.requires.small c.cut.ensures;
      start = c.requires.start;
    }

pub returns : goal.returns
returns g c =
    let w = g.W.Weight in
    made_form w.leb w.plus w.neutral w.unbounded w.hopeless (cut_weights w.leb w.plus w.neutral w.unbounded w.hopeless (cell w.unbounded (map w.value c.args.m.now)) c.args.i c.args.j (w.value c.args.weight)) (map w.value c.cut.new.m) (map w.value c.canonicalize.new.m) c.canonicalize.result c.cut.ensures c.canonicalize.ensures.computed c.canonicalize.ensures.emptied
