-- What an export answers, from what the call itself answers.
use Rattle.std.specs.Prelude.{ℕ, Bool, cond, List, length, ℤ, pos, Some, None, Ok, Err, Option, Result, ◌==◌}
use Rattle.slip.specs.declared.Slip.{Slip}
use Rattle.slip.specs.Refusals.{number}
use Rattle.clocks.specs.declared.Gap.{Gap}
use Rattle.clocks.specs.declared.Sign.TheVariants.{Below, AtMost}
use Rattle.weight.specs.Bounds.{all_small}
use Rattle.weight.specs.Closing.{closing, empty_form}
use Rattle.weight.specs.Limits.{Limit, under, up_to, free, limit_leb, limit_plus}

abbrev pub gap_of : ℕ → ℕ → Bool → ℤ → Gap
gap_of first second strict constant = record { first = first; second = second; sign = cond strict Below AtMost; constant = constant }

-- 0 and the new set as it is passed, or the refusal's number and the old one
abbrev pub told : {S T : Type 0} → (S → T) → T → Result S Slip → ℕ × T
told view old (Ok new) = (0, view new)
told view old (Err e) = (number e.refusal, old)

abbrev pub closed_or : Option (List Limit) → ℕ × List Limit
closed_or (Some new) = (0, new)
closed_or None = (1, empty_form (under (pos 0)))

-- the answer of the closing and the limits after it
abbrev pub close_told : List Limit → ℕ × List Limit
close_told ls = cond (length ls == 49) (cond (all_small ls) (closed_or (closing limit_leb limit_plus (up_to (pos 0)) free ls)) (3, ls)) (2, ls)
