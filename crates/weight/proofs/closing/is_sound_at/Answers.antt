use Rattle.std.proofs.Common.{arith}
use Rattle.weight.proofs.Rows.{read_value}
use Rattle.weight.proofs.closing.is_sound_at.Goals as goal

pub returns : goal.returns
returns g c =
    let w = g.W.Weight in
    let read = read_value w.value w.unbounded c.args.m.now _ c.index-m-k.result (omega arith) c.index-m-k.is in
    cc
