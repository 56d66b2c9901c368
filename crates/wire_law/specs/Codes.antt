-- The bytes of a model, of a trail and of a cover.
use Rattle.std.specs.Prelude.{ℕ, ◌+◌, ◌-◌, ◌*◌, ◌/◌, ◌%◌, ◌^◌, Bool, true, false, cond, not, List, [], ◌∷◌, ◌++◌, length, take, ℤ, pos, negsuc, ◌+ℤ◌, Some, None, Option, ◌==◌}
use Rattle.std.specs.List.{flat_map}
use Rattle.clocks.specs.declared.Gap.{Gap}
use Rattle.clocks.specs.declared.Sign.{Sign}
use Rattle.clocks.specs.declared.Sign.TheVariants.{Below, AtMost}
use Rattle.wire.specs.declared.cell.Letter.{Letter}
use Rattle.wire.specs.declared.cell.Letter.TheVariants.{Barrier, Display, Read, Write, Sensor}
use Rattle.wire.specs.declared.cell.Event.{Event}
use Rattle.wire.specs.declared.cell.End.{End}
use Rattle.wire.specs.declared.cell.Ends.{Ends}
use Rattle.wire.specs.declared.cell.Cell.{Cell}
use Rattle.wire.specs.declared.step.Step.{Step}
use Rattle.wire.specs.declared.step.Step.TheVariants.{Wait, Start, Finish}

-- big-endian
abbrev pub word_code : ℕ → List ℕ
word_code n = n / 256 ∷ n % 256 ∷ []

abbrev pub long_code : ℕ → List ℕ
long_code n = n / 16777216 ∷ n / 65536 % 256 ∷ n / 256 % 256 ∷ n % 256 ∷ []

-- B D R W S
abbrev pub letter_code : Letter → ℕ
letter_code Barrier = 66
letter_code Display = 68
letter_code Read = 82
letter_code Write = 87
letter_code Sensor = 83

abbrev pub event_code : Event → List ℕ
event_code e = letter_code e.letter ∷ (word_code e.lower ++ word_code e.upper)

abbrev pub exits_code : ℕ → List ℕ
exits_code x = cond (x == 0) [] (x ∷ [])

-- an end's two bits: it is there, it is open
abbrev pub end_bits : Option End → ℕ
end_bits None = 0
end_bits (Some e) = cond e.«open» 3 1

abbrev pub end_code : Option End → List ℕ
end_code None = []
end_code (Some e) = word_code e.units

-- the low end's bits, then the high end's
abbrev pub clock_bits : Ends → ℕ
clock_bits e = end_bits e.low + 4 * end_bits e.high

abbrev pub ends_code : Ends → List ℕ
ends_code e = cond (clock_bits e == 0) [] (clock_bits e ∷ (end_code e.low ++ end_code e.high))

-- a bit that stands where there is something
abbrev pub standing : Bool → ℕ
standing true = 1
standing false = 0

-- one bit for each clock, clock 1 lowest
abbrev pub clocks_bits : List Ends → ℕ
clocks_bits [] = 0
clocks_bits (e ∷ es) = standing (not (clock_bits e == 0)) + 2 * clocks_bits es

-- the map: a bit for each event, final, exit set, a bit for each clock
abbrev pub map_bits : Cell → ℕ
map_bits c =
    (2 ^ c.dim - 1) + 16 * standing c.last + 32 * standing (not (c.exits == 0)) + 64 * clocks_bits c.ends

abbrev pub cell_code : Cell → List ℕ
cell_code c =
    word_code (map_bits c) ++ (flat_map event_code (take c.dim c.events) ++ (exits_code c.exits ++ flat_map ends_code c.ends))

abbrev pub model_code : ℕ → List Cell → List ℕ
model_code first cells = word_code (length cells) ++ (word_code first ++ flat_map cell_code cells)

abbrev pub step_code : Step → List ℕ
step_code (Wait n) = 119 ∷ long_code n
step_code (Start c k) = 115 ∷ (word_code c ++ k ∷ [])
step_code (Finish k) = 102 ∷ k ∷ []

abbrev pub trail_code : ℕ → List Step → List ℕ
trail_code scale steps = word_code scale ++ flat_map step_code steps

-- two's complement
abbrev pub signed_code : ℤ → List ℕ
signed_code (pos n) = word_code n
signed_code (negsuc n) = word_code (65535 - n)

-- twice the constant, and 1 more for "at most"
abbrev pub gap_word : Sign → ℤ → ℤ
gap_word Below c = c +ℤ c
gap_word AtMost c = c +ℤ c +ℤ pos 1

abbrev pub gap_code : Gap → List ℕ
gap_code g = g.first ∷ g.second ∷ signed_code (gap_word g.sign g.constant)

abbrev pub entry_code : ℕ × List Gap → List ℕ
entry_code e = word_code e.0 ++ (length e.1 ∷ flat_map gap_code e.1)

abbrev pub cover_code : List (ℕ × List Gap) → List ℕ
cover_code entries = word_code (length entries) ++ flat_map entry_code entries
