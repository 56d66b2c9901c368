use Rattle.std.proofs.Common.{map, arith}
use Rattle.matrix.proofs.Loops.{tight_room}
use Rattle.matrix.proofs.canonicalize.Goals as goal

pub close-requires : goal.close-requires
close-requires g c =
    let w = g.W.Weight in
    record {
      long = omega arith;
      room =
          rw c.tighten.ensures
          (tight_room w.leb w.plus w.neutral w.unbounded w.hopeless w.size 4194304 (map w.value c.args.m.now) c.requires.room c.requires.start);
    }
