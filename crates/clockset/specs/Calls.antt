-- The calls of a kind of clock set, as functions. A set is passed and given by value, so a refused call leaves it as it was.
use Rattle.std.specs.Prelude.{ℕ, Bool, List, [], ◌∷◌, Ok, Err, Result}
use Rattle.slip.specs.declared.Slip.{Slip}
use Rattle.clocks.specs.declared.Gap.{Gap}

pub record Calls (S : Type 0) : Type 0 where
  pub all : S
  pub zero : S
  pub gap : S → Gap → Result S Slip
  pub reset : S → ℕ → Result S Slip
  pub delay : S → Result S Slip
  pub within : S → S → Bool
  pub empty : S → Bool

-- For asking one set many times: the set is brought to a closed form once, and that is asked.
pub record Closings (S : Type 0) : Type 0 where
  pub closed : S → S
  pub closed_within : S → S → Bool
  pub closed_empty : S → Bool

-- one call after another: the first slip counts
infixr 20 ◌⨾◌
abbrev pub ◌⨾◌ : {A B : Type 0} → Result A Slip → (A → Result B Slip) → Result B Slip
Ok a ⨾ f = f a
Err e ⨾ f = Err e

-- a set cut by gaps, in their order
abbrev pub cut_all : {S : Type 0} → Calls S → List Gap → S → Result S Slip
cut_all k [] a = Ok a
cut_all k (g ∷ gs) a = k.gap a g ⨾ cut_all k gs
