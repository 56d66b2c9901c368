-- Small files and what they are read as.
use Rattle.std.specs.Prelude.{◌≡◌, ℕ, true, false, List, [], ◌∷◌, ◌++◌, replicate, ℤ, pos, negsuc, Some, None, Ok, Err}
use Rattle.std.proofs.Common.{lit≤}
use Rattle.slip.specs.declared.Refusal.TheVariants.{Truncated, BadCount, BadBits, OutOfRange, Surplus}
use Rattle.clocks.specs.declared.Gap.{Gap}
use Rattle.clocks.specs.declared.Sign.{Sign}
use Rattle.clocks.specs.declared.Sign.TheVariants.{Below, AtMost}
use Rattle.wire.specs.declared.cell.Letter.TheVariants.{Barrier}
use Rattle.wire.specs.declared.cell.Ends.{Ends}
use Rattle.wire.specs.declared.cell.Cell.{Cell}
use Rattle.wire.specs.declared.step.Step.TheVariants.{Wait, Start, Finish}
use Rattle.wire.specs.Reading.{slip}
use Rattle.wire.specs.CellFormat.{no_event, no_ends}
use Rattle.wire.specs.Files.{model_file, trail_file, cover_file}

-- before the barrier, at it, behind it
abbrev pub lane_bytes : List ℕ
lane_bytes = 0 ∷ 3 ∷ 0 ∷ 0 ∷ 0 ∷ 32 ∷ 1 ∷ 0 ∷ 65 ∷ 66 ∷ 0 ∷ 0 ∷ 0 ∷ 2 ∷ 4 ∷ 0 ∷ 4 ∷ 0 ∷ 80 ∷ 1 ∷ 0 ∷ 2 ∷ []

-- only clock 1 is bounded
abbrev pub first_clock : Ends → List Ends
first_clock e = e ∷ replicate 5 no_ends

-- no event; leaving it resets clock 1
abbrev pub before : Cell
before =
    record { events = replicate 4 no_event; dim = 0; last = false; exits = 1; ends = replicate 6 no_ends; few = lit≤ tt }

-- one barrier event, from cell 0 to cell 2, within 4 units
abbrev pub at : Cell
at =
    record {
      events = record { letter = Barrier; lower = 0; upper = 2 } ∷ replicate 3 no_event;
      dim = 1;
      last = false;
      exits = 0;
      ends = first_clock (record { low = None; high = Some (record { units = 4; «open» = false }) });
      few = lit≤ tt;
    }

-- final, after 2 units or more
abbrev pub behind : Cell
behind =
    record {
      events = replicate 4 no_event;
      dim = 0;
      last = true;
      exits = 0;
      ends = first_clock (record { low = Some (record { units = 2; «open» = false }); high = None });
      few = lit≤ tt;
    }

-- a bound on clock 1 less clock 0
abbrev pub first_gap : Sign → ℤ → Gap
first_gap sign c = record { first = 1; second = 0; sign = sign; constant = c }

-- a cover of one entry with one gap, of the word that has the bytes a, b
abbrev pub gap_bytes : ℕ → ℕ → List ℕ
gap_bytes a b = 0 ∷ 1 ∷ 0 ∷ 0 ∷ 1 ∷ 1 ∷ 0 ∷ a ∷ b ∷ []

abbrev pub ExamplesStand : Type 0
ExamplesStand =
    (model_file lane_bytes ≡ Ok (0, before ∷ at ∷ behind ∷ []))
    × (model_file (lane_bytes ++ 0 ∷ []) ≡ Err (slip Surplus 22))
    × (model_file (0 ∷ 3 ∷ 0 ∷ []) ≡ Err (slip Truncated 2))
    × (model_file (0 ∷ 201 ∷ 0 ∷ 0 ∷ []) ≡ Err (slip BadCount 0))
    × (model_file (0 ∷ 1 ∷ 0 ∷ 0 ∷ 0 ∷ 2 ∷ []) ≡ Err (slip BadBits 4))
    × (model_file (0 ∷ 1 ∷ 0 ∷ 0 ∷ 0 ∷ 32 ∷ 64 ∷ []) ≡ Err (slip OutOfRange 6))
    × (trail_file (0 ∷ 4 ∷ 119 ∷ 0 ∷ 0 ∷ 1 ∷ 2 ∷ 115 ∷ 0 ∷ 1 ∷ 1 ∷ 102 ∷ 1 ∷ []) ≡ Ok (4, Wait 258 ∷ Start 1 1 ∷ Finish 1 ∷ []))
    × (trail_file (0 ∷ 4 ∷ 119 ∷ 0 ∷ []) ≡ Err (slip Truncated 3))
    × (trail_file (0 ∷ 4 ∷ 102 ∷ 1 ∷ 120 ∷ []) ≡ Err (slip OutOfRange 4))
    × (cover_file (0 ∷ 2 ∷ 0 ∷ 0 ∷ 0 ∷ 0 ∷ 1 ∷ 1 ∷ 1 ∷ 0 ∷ 0 ∷ 3 ∷ []) ≡ Ok ((0, []) ∷ (1, first_gap AtMost (pos 1) ∷ []) ∷ []))
    × (cover_file (gap_bytes 0 2) ≡ Ok ((0, first_gap Below (pos 1) ∷ []) ∷ []))
    × (cover_file (gap_bytes 255 255) ≡ Ok ((0, first_gap AtMost (negsuc 0) ∷ []) ∷ []))
    × (cover_file (gap_bytes 255 254) ≡ Ok ((0, first_gap Below (negsuc 0) ∷ []) ∷ []))
    × (cover_file (1 ∷ 1 ∷ []) ≡ Err (slip BadCount 0))
    × (cover_file (0 ∷ 1 ∷ 0 ∷ 0 ∷ 1 ∷ 1 ∷ 0 ∷ 0 ∷ []) ≡ Err (slip Truncated 7))
    × (cover_file (0 ∷ 0 ∷ 0 ∷ []) ≡ Err (slip Surplus 2))
