use Rattle.std.proofs.Common.{◌≡◌, ◌-◌, ◌/◌, ◌^◌, ◌≤◌, nat_lt, false, rules, arith}
use Rattle.std.proofs.Math.Nat.{div-eq_of_lt}
use Rattle.std.proofs.Math.Pow.{pow_mono}
use Rattle.clocks.proofs.stands_in.Goals as goal

-- a place past the byte's bits
pub returns-else-place-lt8 : goal.returns-else-place-lt8
returns-else-place-lt8 c =
    let far : 8 ≤ c.args.clock - 1 = omega (arith, c.if-place-lt8.false, c.saturating_sub-place.ensures) in
    let wide : 2 ^ 8 ≤ 2 ^ (c.args.clock - 1) = pow_mono far in
    let none : c.args.mask / 2 ^ (c.args.clock - 1) ≡ 0 = div-eq_of_lt (omega (arith, wide, c.ranges.mask.fits)) in
    let past : nat_lt c.saturating_sub-place.result 8 ≡ false = search rules in
    rw none past
