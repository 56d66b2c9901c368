-- What a gap asks of a reading.
use Rattle.std.specs.Prelude.{ℕ, suc, ◌+◌, ◌*◌, ◌<◌, ◌≤◌, Bool, not, ◌&&◌, ℤ, pos, negsuc, ◌==◌, nat_le, nat_lt}
use Rattle.clocks.specs.declared.Gap.{Gap}
use Rattle.clocks.specs.declared.Sign.{Sign}
use Rattle.clocks.specs.declared.Sign.TheVariants.{Below, AtMost}
use Rattle.clocks.specs.Readings.{Reading, count_at}

-- an integer as a difference of two naturals, one of which is 0
abbrev pub plus_part : ℤ → ℕ
plus_part (pos n) = n
plus_part (negsuc n) = 0

abbrev pub minus_part : ℤ → ℕ
minus_part (pos n) = 0
minus_part (negsuc n) = suc n

-- x - y is below, or at most, the constant z times the scale; every term stands on the side where it is added
abbrev pub Differs : Sign → ℤ → ℕ → ℕ → ℕ → Type 0
Differs Below z s x y = x + minus_part z * s < y + plus_part z * s
Differs AtMost z s x y = x + minus_part z * s ≤ y + plus_part z * s

abbrev pub ObeysGap : Gap → ℕ → Reading → Type 0
ObeysGap g s v = Differs g.sign g.constant s (count_at v g.first) (count_at v g.second)

-- two different clocks from 0 to 6, and a constant from -9,999 to 9,999
abbrev pub good_gap : Gap → Bool
good_gap g =
    nat_le g.first 6 && (nat_le g.second 6 && (not (g.first == g.second) && (nat_le (plus_part g.constant) 9999 && nat_le (minus_part g.constant) 9999)))

-- a set of clocks from 1 to 6
abbrev pub good_mask : ℕ → Bool
good_mask mask = nat_lt mask 64
