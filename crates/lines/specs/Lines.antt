-- The lines of a report, byte for byte.
use Rattle.std.specs.Prelude.{ℕ, ◌+◌, ◌*◌, ◌/◌, ◌%◌, List, [], ◌∷◌, ◌++◌, Some, None, codes, decimal, Option, slice_index}
use Rattle.std.specs.List.{flat_map}
use Rattle.slip.specs.Line.{slip_line}
pub use Rattle.wire.specs.Words.{step_words}
use Rattle.trail.specs.declared.position.Position.{Position}
pub use Rattle.docket_theory.specs.Words.{verdict_word}
use Rattle.lines.specs.declared.Line.{Line}
use Rattle.lines.specs.declared.Line.TheVariants.{Cells, Took, Trail, NoTrail, Refused, Entries, Verdict}

-- ticks in tenths of a unit, to the nearest tenth, half a tenth up
abbrev pub tenths : ℕ → ℕ → ℕ
tenths ticks scale = (20 * ticks + scale) / (2 * scale)

-- a number of tenths with one decimal, and what follows it
abbrev pub one_decimal : ℕ → List ℕ → List ℕ
one_decimal n rest = decimal (n / 10) ++ (codes "." ++ (decimal (n % 10) ++ rest))

-- six counts, with a space between two
abbrev pub six_counts : List ℕ → List ℕ
six_counts v =
    decimal (slice_index v 0) ++ (codes " " ++ (decimal (slice_index v 1) ++ (codes " " ++ (decimal (slice_index v 2) ++ (codes " " ++ (decimal (slice_index v 3) ++ (codes " " ++ (decimal (slice_index v 4) ++ (codes " " ++ decimal (slice_index v 5))))))))))

-- a line with its end
abbrev pub line_text : Line → List ℕ
line_text (Cells n) = codes "cells " ++ (decimal n ++ codes "\n")
line_text (Took x p) =
    step_words x ++ (codes ": cell " ++ (decimal p.cell ++ (codes " counts " ++ (six_counts p.counts ++ (codes " elapsed " ++ (decimal p.elapsed ++ codes "\n"))))))
line_text (Trail p) =
    codes "trail cell " ++ (decimal p.cell ++ (codes " elapsed " ++ one_decimal (tenths p.elapsed p.scale) (codes "\n")))
line_text NoTrail = codes "trail none\n"
line_text (Refused e) = slip_line e ++ codes "\n"
line_text (Entries e d o) =
    codes "entries " ++ (decimal e ++ (codes " duties " ++ (decimal d ++ (codes " open " ++ (decimal o ++ codes "\n")))))
line_text (Verdict v) = codes "verdict " ++ (verdict_word v ++ codes "\n")

-- a line of a trail's position, where it has one
abbrev pub at_position : Option Position → (Position → Line) → List Line
at_position None line = []
at_position (Some p) line = line p ∷ []

abbrev pub lines_text : List Line → List ℕ
lines_text ls = flat_map line_text ls
