-- An entry of a cover in a file: a cell, and the gaps of its clock set.
use Rattle.std.specs.Prelude.{ℕ, ◌/◌, ◌%◌, cond, List, [], ◌∷◌, ◌++◌, ℤ, pos, negsuc, Ok, ◌==◌}
use Rattle.clocks.specs.declared.Gap.{Gap}
use Rattle.clocks.specs.declared.Sign.{Sign}
use Rattle.clocks.specs.declared.Sign.TheVariants.{Below, AtMost}
use Rattle.wire_fields.specs.Reading.{Parsed, ◌⨟◌, byte_at, word_at, many}
pub use Rattle.wire_fields.specs.Reading.{signed, signed_at}

-- rounded down
abbrev pub half : ℤ → ℤ
half (pos n) = pos (n / 2)
half (negsuc n) = negsuc (n / 2)

-- an odd word is "at most"; negsuc n is -1 - n
abbrev pub sign_of : ℤ → Sign
sign_of (pos n) = cond (n % 2 == 0) Below AtMost
sign_of (negsuc n) = cond (n % 2 == 0) AtMost Below

abbrev pub gap_of : ℕ → ℕ → ℤ → Gap
gap_of i j w = record { first = i; second = j; sign = sign_of w; constant = half w }

abbrev pub gap_at : List ℕ → ℕ → Parsed Gap
gap_at s p = byte_at s p ⨟ λ i q. byte_at s q ⨟ λ j r. signed_at s r ⨟ λ w t. Ok (gap_of i j w, t)

unfoldable pub gaps_at : ℕ → List ℕ → ℕ → Parsed (List Gap)
gaps_at n s p = many (λ gs _ g. gs ++ g ∷ []) (λ _. gap_at) [] n s p

-- cell and gaps
abbrev pub entry_at : List ℕ → ℕ → Parsed (ℕ × List Gap)
entry_at s p = word_at s p ⨟ λ c q. byte_at s q ⨟ λ n r. gaps_at n s r ⨟ λ gs t. Ok ((c, gs), t)
