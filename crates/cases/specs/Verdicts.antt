-- Plans with covers, and the reports that come of them.
use Rattle.std.specs.Prelude.{◌≡◌, ℕ, List, [], ◌∷◌, Some, None, codes, Option}
use Rattle.lines.specs.Lines.{lines_text}
use Rattle.judging.specs.Judge.{judge_lines}
use Rattle.zone.specs.Cases.{CasesStand}
use Rattle.zone.specs.Zones.{zone_calls}
use Rattle.order_set.specs.Orders.{order_calls}
use Rattle.cases.specs.Walks.{three_cells, three_steps, WalksStand}

-- the three-cell plan with a barrier that is open for at most 1 unit, so that the final cell asks for too much
abbrev pub quick_barrier : List ℕ
quick_barrier = 0 ∷ 3 ∷ 0 ∷ 0 ∷ 0 ∷ 32 ∷ 1 ∷ 0 ∷ 65 ∷ 66 ∷ 0 ∷ 0 ∷ 0 ∷ 2 ∷ 4 ∷ 0 ∷ 1 ∷ 0 ∷ 80 ∷ 1 ∷ 0 ∷ 2 ∷ []

-- two entries: cell 0 with all readings, cell 1 with clock 1 at most 1
abbrev pub two_entries : List ℕ
two_entries = 0 ∷ 2 ∷ 0 ∷ 0 ∷ 0 ∷ 0 ∷ 1 ∷ 1 ∷ 1 ∷ 0 ∷ 0 ∷ 3 ∷ []

-- cell 0 exits clocks 1 and 2; cell 1 is a read without ends; the final cell 2 has clock 1 at least 5 and clock 2 at most 3
abbrev pub two_clocks : List ℕ
two_clocks = 0 ∷ 3 ∷ 0 ∷ 0 ∷ 0 ∷ 32 ∷ 3 ∷ 0 ∷ 1 ∷ 82 ∷ 0 ∷ 0 ∷ 0 ∷ 2 ∷ 0 ∷ 208 ∷ 1 ∷ 0 ∷ 5 ∷ 4 ∷ 0 ∷ 3 ∷ []

-- cell 0 with all readings, cell 1 with clocks 1 and 2 equal
abbrev pub equal_clocks : List ℕ
equal_clocks = 0 ∷ 2 ∷ 0 ∷ 0 ∷ 0 ∷ 0 ∷ 1 ∷ 2 ∷ 1 ∷ 2 ∷ 0 ∷ 1 ∷ 2 ∷ 1 ∷ 0 ∷ 1 ∷ []

-- one cell, the first, that asks for clock 1 at least 1: no run opens
abbrev pub no_opening : List ℕ
no_opening = 0 ∷ 1 ∷ 0 ∷ 0 ∷ 0 ∷ 64 ∷ 1 ∷ 0 ∷ 1 ∷ []

abbrev pub zone_report : List ℕ → Option (List ℕ) → Option (List ℕ) → List ℕ
zone_report model cover trail = lines_text (judge_lines zone_calls model cover trail)

abbrev pub order_report : List ℕ → Option (List ℕ) → Option (List ℕ) → List ℕ
order_report model cover trail = lines_text (judge_lines order_calls model cover trail)

abbrev pub Cases : Type 0
Cases =
    (zone_report three_cells None (Some three_steps) ≡ codes "cells 3\nentries 0 duties 1 open 1\ntrail cell 2 elapsed 2.5\nverdict reached\n")
    × (zone_report quick_barrier (Some two_entries) None ≡ codes "cells 3\nentries 2 duties 5 open 0\ntrail none\nverdict shut\n")
    × (zone_report three_cells (Some two_entries) None ≡ codes "cells 3\nentries 2 duties 5 open 1\ntrail none\nverdict undecided\n")
    × (zone_report two_clocks (Some equal_clocks) None ≡ codes "cells 3\nentries 2 duties 5 open 0\ntrail none\nverdict shut\n")
    × (order_report two_clocks (Some equal_clocks) None ≡ codes "cells 3\nentries 2 duties 5 open 1\ntrail none\nverdict undecided\n")
    × (zone_report no_opening None None ≡ codes "cells 1\nentries 0 duties 1 open 0\ntrail none\nverdict shut\n")
    × (zone_report no_opening None (Some (0 ∷ 1 ∷ [])) ≡ codes "cells 1\nentries 0 duties 1 open 0\nrefused 22 layer 4 place 0\n")
    × WalksStand
    × CasesStand
