-- A call that is refused by a fault.
use Rattle.std.proofs.Common.{◌≡◌, ℕ, Some, None, Ok, Err, Option, Result, arith}
use Rattle.std.specs.Result.{IsErrAnd}
use Rattle.slip.specs.declared.Slip.{Slip}
use Rattle.docket_theory.specs.Docket.{unless}
use Rattle.docket_theory.specs.Worlds.{World}
use Rattle.model.specs.Accept.{unless as passes}

pub refused : {S A : Type 0} (fault : Option Slip) (r : Result A Slip) (e : Slip) (a : A) (after w : World S) → IsErrAnd r (λ y. y ≡ e) → Err e ≡ passes fault → ◌≡◌ {A = Result A Slip × World S} (r, w) (unless fault a after w)
refused None r e a after w is h = let z : ◌≡◌ {A = ℕ} 0 1 = cc in absurd (omega arith)
refused (Some x) (Ok y) e a after w is h = absurd is
refused (Some x) (Err y) e a after w is h = cc
