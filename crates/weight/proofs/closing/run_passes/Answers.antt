use Rattle.std.proofs.Common.{◌≡◌, ◌+◌, ◌^◌, ◌≤◌, false, map, sym, refl, ap, ◌∙◌, add-one, arith, pow_mono}
use Rattle.weight.specs.Closing.{cell, one_pass, passes}
use Rattle.weight.proofs.Matrix.{closing_none, closing_test, passes_room}
use Rattle.weight.proofs.closing.run_passes.Goals as goal

pub pass-requires : goal.pass-requires
pass-requires g c =
    let w = g.W.Weight in
    let k = c.loop-k.k in
    let xs = map w.value c.args.m.now in
    let before : k ≤ 6 = omega arith in
    let power : 2 ^ k ≤ 2 ^ 6 = pow_mono before in
    record {
      long = omega arith;
      via = c.loop-k-test.true;
      room =
          λ i j hi hj.
          rw c.loop-k.invariant
          (omega (arith, passes_room g.met.W.Weight.laws w.unbounded xs w.size g.met.W.Weight.grows 4194304 k c.loop-k.auto.k-end c.requires.room i j hi hj));
    }

pub loop-k-preserved : goal.loop-k-preserved
loop-k-preserved g c =
    let w = g.W.Weight in
    let k = c.loop-k.k in
    let xs = map w.value c.args.m.now in
    let turn : passes w.leb w.plus w.unbounded (k + 1) xs ≡ one_pass w.leb w.plus w.unbounded k (passes w.leb w.plus w.unbounded k xs) = rw add-one refl in
    c.pass.ensures ∙ ap (one_pass w.leb w.plus w.unbounded k) c.loop-k.invariant ∙ sym turn

pub returns-then-not-is_sound_at : goal.returns-then-not-is_sound_at
returns-then-not-is_sound_at g c =
    let w = g.W.Weight in
    let k = c.loop-k.k in
    let less : w.leb w.neutral (cell w.unbounded (map w.value c.loop-k.m) k k) ≡ false = sym c.if-not-is_sound_at.ensures in
    closing_none g.met.W.Weight.laws w.unbounded (map w.value c.args.m.now) k k c.loop-k.auto.k-end c.loop-k-test.true (rw c.loop-k.invariant at less)

pub returns : goal.returns
returns g c =
    let w = g.W.Weight in
    let k7 : c.loop-k.k ≡ 7 = omega arith in
    closing_test g.met.W.Weight.laws w.unbounded (map w.value c.args.m.now) (map w.value c.loop-k.m) c.is_sound.result (rw k7 at c.loop-k.invariant) c.is_sound.ensures
