-- Zones, and what their calls answer. The functions compute.
use Rattle.std.specs.Prelude.{ℕ, ◌+◌, ◌*◌, Bool, cond, not, ◌||◌, List, [], ◌∷◌, map, pos, Ok, Err, Result, nat_le, slice_index_or}
use Rattle.slip.specs.declared.Slip.{Slip}
use Rattle.clocks.specs.declared.Gap.{Gap}
use Rattle.clocks.specs.Gaps.{good_gap, good_mask}
use Rattle.clocks.specs.Readings.{Reading, in_mask}
use Rattle.clockset.specs.Calls.{Calls, ◌⨾◌, Closings}
use Rattle.clockset.specs.Laws.{bad_argument, bound_too_large}
use Rattle.weight.specs.declared.bound.Bound.{Bound}
use Rattle.weight.specs.Bounds.{limit_of, bound_of, limit_size, all_small}
use Rattle.weight.specs.Closing.{cell}
use Rattle.weight.specs.Limits.{Limit, under, up_to, free, limit_leb, limit_plus}
use Rattle.zone_theory.specs.Gaps.{gap_limit}
use Rattle.zone_theory.specs.Matrices.{zero_limits, all_limits}
use Rattle.zone_theory.specs.Readings.{Holds}
use Rattle.zone_theory.specs.Sets.{tabled, canonical_form, or_empty, cut_weights, cut_form, reset_form, delay_form, beneath_all, within_form, empty_test}
use Rattle.zone.specs.declared.Zone.{Zone}

-- a stored number whose constant passes 4,000,000 either way is no bound
abbrev pub read_limit : Bound → Limit
read_limit b = cond (nat_le (limit_size (limit_of b)) 4000000) (limit_of b) free

-- the 49 limits of a zone, row by row
abbrev pub limit_list : Zone → List Limit
limit_list z = tabled (λ i j. read_limit (slice_index_or z.bounds (7 * i + j) (record { code = pos 0 })))

-- the bound on the count of clock i less that of clock j
abbrev pub limits : Zone → ℕ → ℕ → Limit
limits z = cell free (limit_list z)

-- a zone holds the readings that its bounds allow
abbrev pub zone_holds : Zone → ℕ → Reading → Type 0
zone_holds z s v = Holds (limits z) s v

abbrev pub stored : List Limit → Zone
stored ls = record { bounds = map bound_of ls }

-- a closed form is kept if no bound's constant passes 4,000,000 either way
abbrev pub kept_zone : List Limit → Result Zone Slip
kept_zone ls = cond (all_small ls) (Ok (stored ls)) (Err bound_too_large)

abbrev pub zone_all : Zone
zone_all = stored (tabled all_limits)

abbrev pub zone_zero : Zone
zone_zero = stored (tabled zero_limits)

abbrev pub zone_gap : Zone → Gap → Result Zone Slip
zone_gap z g =
    cond (good_gap g) (kept_zone (cut_form limit_leb limit_plus (up_to (pos 0)) free (under (pos 0)) (limit_list z) g.first g.second (gap_limit g))) (Err bad_argument)

abbrev pub zone_reset : Zone → ℕ → Result Zone Slip
zone_reset z mask = cond (good_mask mask) (kept_zone (reset_form limit_leb limit_plus (up_to (pos 0)) free (under (pos 0)) (in_mask mask) (limit_list z))) (Err bad_argument)

abbrev pub zone_delay : Zone → Result Zone Slip
zone_delay z = kept_zone (delay_form limit_leb limit_plus (up_to (pos 0)) free (under (pos 0)) (limit_list z))

abbrev pub zone_within : Zone → Zone → Bool
zone_within a b = within_form limit_leb limit_plus (up_to (pos 0)) free (under (pos 0)) (limit_list a) (limit_list b)

abbrev pub zone_empty : Zone → Bool
zone_empty z = empty_test limit_leb limit_plus (up_to (pos 0)) free (under (pos 0)) (limit_list z)

-- limits cut by a gap, and nothing closed yet
abbrev pub raw_cut : Gap → List Limit → Result (List Limit) Slip
raw_cut g ls =
    cond (good_gap g) (Ok (tabled (cut_weights limit_leb limit_plus (up_to (pos 0)) free (under (pos 0)) (cell free ls) g.first g.second (gap_limit g)))) (Err bad_argument)

abbrev pub raw_cuts : List Gap → List Limit → Result (List Limit) Slip
raw_cuts [] ls = Ok ls
raw_cuts (g ∷ gs) ls = raw_cut g ls ⨾ raw_cuts gs

-- the closed form of limits, or the empty one
abbrev pub formed : List Limit → List Limit
formed ls = or_empty limit_leb limit_plus (up_to (pos 0)) free (under (pos 0)) (canonical_form limit_leb limit_plus (up_to (pos 0)) free (under (pos 0)) ls)

-- the closed form, also where a constant passes 4,000,000: it is for asking, and no call keeps it
abbrev pub zone_closed : Zone → Zone
zone_closed z = stored (formed (limit_list z))

-- only the empty form has its first clock below itself
abbrev pub zone_closed_empty : Zone → Bool
zone_closed_empty z = not (limit_leb (up_to (pos 0)) (limit_of (slice_index_or z.bounds 0 (record { code = pos 0 }))))

abbrev pub zone_closed_within : Zone → Zone → Bool
zone_closed_within a b = zone_closed_empty a || beneath_all limit_leb limit_plus (up_to (pos 0)) free (under (pos 0)) (map limit_of a.bounds) (limit_list b)

abbrev pub zone_calls : Calls Zone
zone_calls = record { all = zone_all; zero = zone_zero; gap = zone_gap; reset = zone_reset; delay = zone_delay; within = zone_within; empty = zone_empty }

abbrev pub zone_closings : Closings Zone
zone_closings = record { closed = zone_closed; closed_within = zone_closed_within; closed_empty = zone_closed_empty }
