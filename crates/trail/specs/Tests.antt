-- The tests that a trail's calls make of counts.
use Rattle.std.specs.Prelude.{ℕ, ◌+◌, ◌*◌, Bool, true, cond, ◌&&◌, leb, List, Some, None, Option, nat_le, nat_lt, slice_index, slice_index_or}
use Rattle.wire.specs.declared.cell.Cell.{Cell}
use Rattle.wire.specs.declared.cell.End.{End}
use Rattle.wire.specs.declared.cell.Ends.{Ends}
use Rattle.model.specs.Below.{all_below}
use Rattle.model.specs.Cells.{unbounded}

-- an end of b units is compared as b times the scale
abbrev pub end_ticks : End → ℕ → ℕ
end_ticks e s = e.units * s

abbrev pub above_low : Option End → ℕ → ℕ → Bool
above_low None s n = true
above_low (Some e) s n = cond e.open (nat_lt (end_ticks e s) n) (nat_le (end_ticks e s) n)

abbrev pub below_high : Option End → ℕ → ℕ → Bool
below_high None s n = true
below_high (Some e) s n = cond e.open (nat_lt n (end_ticks e s)) (nat_le n (end_ticks e s))

abbrev pub allowed : Ends → ℕ → ℕ → Bool
allowed e s n = above_low e.low s n && below_high e.high s n

-- the counts meet the cell's invariant
unfoldable pub meets : Cell → ℕ → List ℕ → Bool
meets c s v = all_below 6 (λ i. allowed (slice_index_or c.ends i unbounded) s (slice_index v i))

-- no count passes the limit when n ticks are added
unfoldable pub fits : ℕ → List ℕ → Bool
fits n v = all_below 6 (λ i. leb (slice_index v i + n) 1000000000)
