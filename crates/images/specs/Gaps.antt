-- The gaps of a cell's ends, by clock, the low end first.
use Rattle.std.specs.Prelude.{ℕ, zero, suc, List, [], ◌∷◌, ◌++◌, take, Some, None, Option, slice_index_or}
use Rattle.std.specs.Option.{option_map}
use Rattle.clocks.specs.declared.Gap.{Gap}
use Rattle.wire.specs.declared.cell.Cell.{Cell}
use Rattle.wire.specs.declared.cell.Ends.{Ends}
use Rattle.model.specs.Cells.{unbounded}
use Rattle.docket_theory.specs.Images.{low_gap, high_gap}
use Rattle.images.specs.declared.gap_list.GapList.{GapList}

-- the gaps that a table holds
abbrev pub gathered : GapList → List Gap
gathered g = take g.count g.list

abbrev pub listed : Option Gap → List Gap
listed None = []
listed (Some g) = g ∷ []

abbrev pub clock_gaps : ℕ → Ends → List Gap
clock_gaps i ends = listed (option_map (low_gap i) ends.low) ++ listed (option_map (high_gap i) ends.high)

-- of clocks 1 to n
unfoldable pub gaps_to : Cell → ℕ → List Gap
gaps_to c zero = []
gaps_to c (suc n) = gaps_to c n ++ clock_gaps (suc n) (slice_index_or c.ends n unbounded)
