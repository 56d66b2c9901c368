-- Two small zones, computed, and the canonical form.
use Rattle.std.specs.Prelude.{◌≡◌, Bool, true, false, ◌↔◌, List, ℤ, pos, negsuc, Some, None, Ok, Err, Option, Result}
use Rattle.slip.specs.declared.Slip.{Slip}
use Rattle.clocks.specs.declared.Gap.{Gap}
use Rattle.clocks.specs.declared.Sign.{Sign}
use Rattle.clocks.specs.declared.Sign.TheVariants.{Below, AtMost}
use Rattle.clockset.specs.Laws.{Alike}
use Rattle.weight.specs.Limits.{Limit, under, up_to, free, limit_leb, limit_plus}
use Rattle.zone_theory.specs.Sets.{canonical_form}
use Rattle.zone.specs.declared.Zone.{Zone}
use Rattle.zone.specs.Zones.{limit_list, zone_holds, zone_all, zone_gap, zone_empty}

abbrev pub cut_by : Result Zone Slip → Gap → Result Zone Slip
cut_by (Ok z) g = zone_gap z g
cut_by (Err e) g = Err e

abbrev pub emptied : Result Zone Slip → Option Bool
emptied (Ok z) = Some (zone_empty z)
emptied (Err e) = None

-- clock 1 against a constant, from below and from above
abbrev pub low : Sign → ℤ → Gap
low s z = record { first = 0; second = 1; sign = s; constant = z }

abbrev pub high : Sign → ℤ → Gap
high s z = record { first = 1; second = 0; sign = s; constant = z }

-- clock 1 above 0 and below 1: no whole unit, and not empty. At least 1 and below 1: empty
abbrev pub CasesStand : Type 0
CasesStand =
    (emptied (cut_by (zone_gap zone_all (low Below (pos 0))) (high Below (pos 1))) ≡ Some false)
    × (emptied (cut_by (zone_gap zone_all (low AtMost (negsuc 0))) (high Below (pos 1))) ≡ Some true)

-- the bounds in closed form; a zone without readings has none
abbrev pub closed_bounds : Zone → Option (List Limit)
closed_bounds z = canonical_form limit_leb limit_plus (up_to (pos 0)) free (under (pos 0)) (limit_list z)

-- two zones hold the same readings just when their closed bounds are equal
abbrev pub Canonical : Type 0
Canonical = (a b : Zone) → Alike zone_holds a b ↔ (closed_bounds a ≡ closed_bounds b)
