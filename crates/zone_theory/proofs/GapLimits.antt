-- A gap asks what its limit asks, and its sign asks no more.
use Rattle.std.proofs.Common.{ℕ, zero, suc, ◌≤◌, ◌↔◌, List, ℤ, pos, negsuc, mul-le-mul_right, arith}
use Rattle.clocks.specs.declared.Gap.{Gap}
use Rattle.clocks.specs.declared.Sign.{Sign}
use Rattle.clocks.specs.declared.Sign.TheVariants.{Below, AtMost}
use Rattle.clocks.specs.Gaps.{Differs, ObeysGap}
use Rattle.clocks.specs.Readings.{count_at}
use Rattle.weight.specs.Signs.{sign_limit}
use Rattle.zone_theory.specs.Gaps.{limit_by, gap_limit, sign_by, gap_sign}
use Rattle.zone_theory.specs.Readings.{Obeys}

differs_obeys : (t : Sign) (z : ℤ) (s x y : ℕ) → Differs t z s x y ↔ Obeys (limit_by t z) s x y
differs_obeys Below (pos n) s x y = (λ h. h, λ h. h)
differs_obeys Below (negsuc n) s x y = (λ h. h, λ h. h)
differs_obeys AtMost (pos n) s x y = (λ h. h, λ h. h)
differs_obeys AtMost (negsuc n) s x y = (λ h. h, λ h. h)

pub gap_obeys : (g : Gap) (s : ℕ) (v : List ℕ) → ObeysGap g s v ↔ Obeys (gap_limit g) s (count_at v g.first) (count_at v g.second)
gap_obeys g s v = differs_obeys g.sign g.constant s (count_at v g.first) (count_at v g.second)

differs_sign : (t : Sign) (z : ℤ) (s x y : ℕ) → 1 ≤ s → Differs t z s x y → Obeys (sign_limit (sign_by t z)) s x y
differs_sign Below (negsuc n) s x y p h = omega (arith, mul-le-mul_right s (let k : 1 ≤ suc n = omega arith in k))
differs_sign AtMost (negsuc n) s x y p h = omega (arith, mul-le-mul_right s (let k : 1 ≤ suc n = omega arith in k))
differs_sign Below (pos zero) s x y p h = h
differs_sign AtMost (pos zero) s x y p h = h
differs_sign Below (pos (suc n)) s x y p h = tt
differs_sign AtMost (pos (suc n)) s x y p h = tt

pub gap_sign_is : (g : Gap) (s : ℕ) (v : List ℕ) → 1 ≤ s → ObeysGap g s v → Obeys (sign_limit (gap_sign g)) s (count_at v g.first) (count_at v g.second)
gap_sign_is g s v = differs_sign g.sign g.constant s (count_at v g.first) (count_at v g.second)
