-- Equal results fare alike.
use Rattle.std.proofs.Common.{◌≡◌, ℕ, Ok, Err, Result, refl, subst}
use Rattle.slip.specs.declared.Slip.{Slip}
use Rattle.clocks.specs.Readings.{Reading}
use Rattle.clockset.specs.Laws.{FareAlike}

module _ {S : Type 0} (holds : S → ℕ → Reading → Type 0) where
  fare_self : (r : Result S Slip) → FareAlike holds r r
  fare_self (Ok a) = (λ s v p six h. h, λ s v p six h. h)
  fare_self (Err e) = refl

  pub fare_same : (r t : Result S Slip) → r ≡ t → FareAlike holds r t
  fare_same r t e = subst (FareAlike holds r) e (fare_self r)
