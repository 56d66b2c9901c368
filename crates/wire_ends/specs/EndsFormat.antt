-- The range of a clock in a file.
use Rattle.std.specs.Prelude.{ℕ, ◌/◌, ◌%◌, ◌^◌, Bool, cond, not, ◌&&◌, ◌||◌, List, Some, None, Ok, Option, ◌==◌, nat_le, nat_lt}
use Rattle.slip.specs.declared.Refusal.TheVariants.{BadBits, OutOfRange}
use Rattle.wire_fields.specs.Reading.{Parsed, ◌⨟◌, byte_at, word_at, kept}
use Rattle.wire_ends.specs.declared.ends.End.{End}
use Rattle.wire_ends.specs.declared.ends.Ends.{Ends}

-- whether bit k of m stands
unfoldable pub bit : ℕ → ℕ → Bool
bit m k = m / 2 ^ k % 2 == 1

-- an open bit needs its end
abbrev pub end_ok : Bool → Bool → Bool
end_ok has o = has || not o

-- of a clock's byte, bit 0 is its low end, 1 says that this is open, 2 is its high end, 3 says that this is open
unfoldable pub flags_ok : ℕ → Bool
flags_ok f =
    nat_lt f 16 && (bit f 0 || bit f 2) && end_ok (bit f 0) (bit f 1) && end_ok (bit f 2) (bit f 3)

abbrev pub flags_at : List ℕ → ℕ → Parsed ℕ
flags_at s p = byte_at s p ⨟ λ f q. kept (flags_ok f) BadBits p f q

-- an end that is there
abbrev pub there_at : Bool → List ℕ → ℕ → Parsed End
there_at o s p = word_at s p ⨟ λ u q. kept (nat_le u 9999) OutOfRange p (record { units = u; «open» = o }) q

-- an end, where the byte has one
abbrev pub end_at : Bool → Bool → List ℕ → ℕ → Parsed (Option End)
end_at has o s p =
    cond has (word_at s p ⨟ λ u q. kept (nat_le u 9999) OutOfRange p (Some (record { units = u; «open» = o })) q) (Ok (None, p))

abbrev pub no_ends : Ends
no_ends = record { low = None; high = None }

-- the range of a clock, where the map has one
abbrev pub ends_at : Bool → List ℕ → ℕ → Parsed Ends
ends_at has s p =
    cond has
    (flags_at s p ⨟ λ f q.
    end_at (bit f 0) (bit f 1) s q ⨟ λ l r. end_at (bit f 2) (bit f 3) s r ⨟ λ h t. Ok (record { low = l; high = h }, t))
    (Ok (no_ends, p))
