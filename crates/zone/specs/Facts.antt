-- What the calls of a zone mean, from the lists of limits that they make.
use Rattle.std.specs.Prelude.{◌≡◌, ℕ, ◌<◌, Bool, true, false, cond, ◌⊎◌, List, length, pos, Ok, Err, Result, nat_le, refl}
use Rattle.std.proofs.Common.{sym, ◌∙◌, ap, subst, inl, inr, ⊎_elim, arith}
use Rattle.std.proofs.lemmas.Bool.{and_parts, both_ways, cond-false, cond-true, leb-true}
use Rattle.slip.specs.Refusals.{number}
use Rattle.slip.specs.declared.Slip.{Slip}
use Rattle.clocks.specs.declared.Gap.{Gap}
use Rattle.clocks.specs.Gaps.{good_gap, good_mask}
use Rattle.clocks.specs.Readings.{Reading, in_mask, count_at}
use Rattle.clockset.specs.Laws.{bad_argument, bound_too_large, Alike}
use Rattle.weight.specs.Bounds.{all_small}
use Rattle.weight.specs.Closing.{cell, one_pass, closing, empty_form}
use Rattle.weight.specs.Limits.{Limit, under, up_to, free, limit_leb, limit_plus}
use Rattle.zone_theory.specs.Gaps.{gap_limit}
use Rattle.zone_theory.specs.Matrices.{zero_limits, all_limits}
use Rattle.zone_theory.specs.Readings.{Holds, Fine}
use Rattle.zone_theory.specs.Sets.{tabled, canonical_form, cut_form, reset_of, reset_form, delay_of, delay_form}
use Rattle.zone_theory.proofs.Forms.{limit_embeds, cut_exact, cut_shape, cut_length, cut_one, reset_exact, reset_shape, reset_length, delay_exact, delay_shape, delay_length, within_exact, empty_exact, form_one, one_alike}
use Rattle.zone_theory.proofs.GapLimits.{gap_obeys}
use Rattle.zone_theory.proofs.Kept.{same_meets}
use Rattle.zone_theory.proofs.Larges.{cut_large, reset_large, delay_large}
use Rattle.zone_theory.proofs.Moves.{all_forth, zero_back, zero_forth}
use Rattle.zone_theory.proofs.Tables.{tabled_cell}
use Rattle.zone.specs.declared.Zone.{Zone}
use Rattle.zone.specs.Cases.{CasesStand, Canonical}
use Rattle.zone.specs.Exact.{Formed, GapExact, ResetExact, DelayExact, BadWhen, GapLarge, ResetLarge, DelayLarge, GapStands, ResetStands, DelayStands, ZeroExact, WithinExact, EmptyExact}
use Rattle.zone.specs.Zones.{limit_list, zone_holds, stored, kept_zone, zone_all, zone_zero, zone_gap, zone_reset, zone_delay, zone_within, zone_empty}
use Rattle.zone.specs.Kept.{read_again}

-- a zone that is kept has the limits that were computed
kept_by : (ls : List Limit) (t : Bool) (b : Zone) → cond t (Ok (stored ls)) (Err bound_too_large) ≡ Ok b → (t ≡ true) × (b ≡ stored ls)
kept_by ls true b e = (refl, cc)
kept_by ls false b e = absurd (let z : ◌≡◌ {A = ℕ} 0 1 = cc in omega arith)

pub kept_stored : (ls : List Limit) (b : Zone) → kept_zone ls ≡ Ok b → (all_small ls ≡ true) × (b ≡ stored ls)
kept_stored ls b e = kept_by ls (all_small ls) b e

pub kept_list : (ls : List Limit) → length ls ≡ 49 → (b : Zone) → kept_zone ls ≡ Ok b → limit_list b ≡ ls
kept_list ls long b e = let k = kept_stored ls b e in ap limit_list k.1 ∙ read_again ls long k.0

kept_shape : (ls : List Limit) → length ls ≡ 49 → Fine (cell free ls) ⊎ (ls ≡ empty_form (under (pos 0))) → Formed (kept_zone ls)
kept_shape ls long shape b e =
    ⊎_elim (λ fine. inl (subst (λ l. Fine (cell free l)) (sym (kept_list ls long b e)) fine)) (λ none. inr ((kept_stored ls b e).1 ∙ ap stored none)) shape

abbrev number_of : Result Zone Slip → ℕ
number_of (Ok b) = 0
number_of (Err e) = number e.refusal

kept_slip_by : (ls : List Limit) (t : Bool) (e : Slip) → cond t (Ok (stored ls)) (Err bound_too_large) ≡ Err e → (t ≡ false) × (e ≡ bound_too_large)
kept_slip_by ls true e is = absurd (let z : ◌≡◌ {A = ℕ} 0 1 = cc in omega arith)
kept_slip_by ls false e is = (refl, cc)

-- and what is not kept is refused as too large
pub kept_slip : (ls : List Limit) (e : Slip) → kept_zone ls ≡ Err e → (all_small ls ≡ false) × (e ≡ bound_too_large)
kept_slip ls e is = kept_slip_by ls (all_small ls) e is

large_is : (ls : List Limit) → all_small ls ≡ false → kept_zone ls ≡ Err bound_too_large
large_is ls e = cond-false (all_small ls) (Ok (stored ls)) (Err bound_too_large) e

-- a call looks at its argument first
pub good_ok : (good : Bool) (r : Result Zone Slip) (b : Zone) → cond good r (Err bad_argument) ≡ Ok b → (good ≡ true) × (r ≡ Ok b)
good_ok true r b e = (refl, e)
good_ok false r b e = absurd (let z : ◌≡◌ {A = ℕ} 0 1 = cc in omega arith)

good_large : (good : Bool) (r : Result Zone Slip) → cond good r (Err bad_argument) ≡ Err bound_too_large → (good ≡ true) × (r ≡ Err bound_too_large)
good_large true r e = (refl, e)
good_large false r e = absurd (let z : ◌≡◌ {A = ℕ} 11 16 = ap number_of e in omega arith)

bad_when : (good : Bool) (ls : List Limit) → BadWhen good (cond good (kept_zone ls) (Err bad_argument))
bad_when true ls = (λ e. absurd (let z : ◌≡◌ {A = ℕ} 11 16 = ap (λ (t : Slip). number t.refusal) (kept_slip ls bad_argument e).1 in omega arith), λ e. absurd (both_ways true e refl))
bad_when false ls = (λ e. refl, λ e. refl)

-- gaps
module _ (z : Zone) (g : Gap) where
  abbrev pub cut_list : List Limit
  cut_list = cut_form limit_leb limit_plus (up_to (pos 0)) free (under (pos 0)) (limit_list z) g.first g.second (gap_limit g)

  pub clocks_in : good_gap g ≡ true → (g.first < 7) × (g.second < 7)
  clocks_in good =
      let a = and_parts (nat_le g.first 6) _ good in
      let b = and_parts (nat_le g.second 6) _ a.1 in
      (omega (arith, leb-true g.first 6 a.0), omega (arith, leb-true g.second 6 b.0))

  pub gap_exact : GapExact z g (zone_gap z g)
  gap_exact b e s v p six =
      let ok = good_ok (good_gap g) (kept_zone cut_list) b e in
      let in-range = clocks_in ok.0 in
      let is = kept_list cut_list (cut_length limit_embeds (limit_list z) g.first g.second (gap_limit g)) b ok.1 in
      let x = cut_exact limit_embeds (limit_list z) g.first g.second (gap_limit g) in-range.0 in-range.1 s v p in (
        λ h. let r = x.0 (subst (λ l. Holds (cell free l) s v) is h) in (r.0, (gap_obeys g s v).1 r.1),
        λ h. subst (λ l. Holds (cell free l) s v) (sym is) (x.1 (h.0, (gap_obeys g s v).0 h.1)),
      )

  pub gap_formed : Formed (zone_gap z g)
  gap_formed b e =
      kept_shape cut_list (cut_length limit_embeds (limit_list z) g.first g.second (gap_limit g)) (cut_shape limit_embeds (limit_list z) g.first g.second (gap_limit g)) b
      (good_ok (good_gap g) (kept_zone cut_list) b e).1

  pub gap_bad : BadWhen (good_gap g) (zone_gap z g)
  gap_bad = bad_when (good_gap g) cut_list

  pub gap_large : GapLarge z g (zone_gap z g)
  gap_large =
      let l = cut_large (limit_list z) g.first g.second (gap_limit g) in (
        λ e. let r = good_large (good_gap g) (kept_zone cut_list) e in (r.0, l.0 (kept_slip cut_list bound_too_large r.1).0),
        λ r. cond-true (good_gap g) (kept_zone cut_list) (Err bad_argument) r.0 ∙ large_is cut_list (l.1 r.1),
      )

-- resets
module _ (z : Zone) (mask : ℕ) where
  abbrev pub reset_list : List Limit
  reset_list = reset_form limit_leb limit_plus (up_to (pos 0)) free (under (pos 0)) (in_mask mask) (limit_list z)

  pub reset_exactly : ResetExact z mask (zone_reset z mask)
  reset_exactly b e s v p six =
      let is = kept_list reset_list (reset_length limit_embeds (in_mask mask) (limit_list z)) b (good_ok (good_mask mask) (kept_zone reset_list) b e).1 in
      let x = reset_exact limit_embeds (in_mask mask) (limit_list z) s v p six in
      (λ h. x.0 (subst (λ l. Holds (cell free l) s v) is h), λ h. subst (λ l. Holds (cell free l) s v) (sym is) (x.1 h))

  pub reset_formed : Formed (zone_reset z mask)
  reset_formed b e =
      kept_shape reset_list (reset_length limit_embeds (in_mask mask) (limit_list z)) (reset_shape limit_embeds (in_mask mask) (limit_list z)) b (good_ok (good_mask mask) (kept_zone reset_list) b e).1

  pub reset_bad : BadWhen (good_mask mask) (zone_reset z mask)
  reset_bad = bad_when (good_mask mask) reset_list

  pub reset_too_large : ResetLarge z mask (zone_reset z mask)
  reset_too_large =
      let l = reset_large (in_mask mask) (limit_list z) in (
        λ e. let r = good_large (good_mask mask) (kept_zone reset_list) e in (r.0, l.0 (kept_slip reset_list bound_too_large r.1).0),
        λ r. cond-true (good_mask mask) (kept_zone reset_list) (Err bad_argument) r.0 ∙ large_is reset_list (l.1 r.1),
      )

-- delays
module _ (z : Zone) where
  abbrev pub delay_list : List Limit
  delay_list = delay_form limit_leb limit_plus (up_to (pos 0)) free (under (pos 0)) (limit_list z)

  pub delay_exactly : DelayExact z (zone_delay z)
  delay_exactly b e s v p six =
      let is = kept_list delay_list (delay_length limit_embeds (limit_list z)) b e in
      let x = delay_exact limit_embeds (limit_list z) s v p six in
      (λ h. x.0 (subst (λ l. Holds (cell free l) s v) is h), λ h. subst (λ l. Holds (cell free l) s v) (sym is) (x.1 h))

  pub delay_formed : Formed (zone_delay z)
  delay_formed b e = kept_shape delay_list (delay_length limit_embeds (limit_list z)) (delay_shape limit_embeds (limit_list z)) b e

  pub delay_too_large : DelayLarge z (zone_delay z)
  delay_too_large =
      let l = delay_large (limit_list z) in
      (λ e. l.0 (kept_slip delay_list bound_too_large e).0, λ r. large_is delay_list (l.1 r))

-- the zones to start from
all_list : limit_list zone_all ≡ tabled all_limits
unfolding tabled
all_list = read_again (tabled all_limits) refl refl

pub all_in : (s : ℕ) (v : Reading) → zone_holds zone_all s v
all_in s v =
    subst (λ l. Holds (cell free l) s v) (sym all_list)
    (same_meets all_limits (cell free (tabled all_limits)) (λ i j hi hj. sym (tabled_cell free all_limits i j hi hj)) s (count_at v) (all_forth s v))

zero_list : limit_list zone_zero ≡ tabled zero_limits
unfolding tabled
zero_list = read_again (tabled zero_limits) refl refl

pub zero_exact : ZeroExact zone_zero
zero_exact s v p six = (
  λ h. zero_back s v six (same_meets (cell free (tabled zero_limits)) zero_limits (tabled_cell free zero_limits) s (count_at v) (subst (λ l. Holds (cell free l) s v) zero_list h)),
  λ e.
      subst (λ l. Holds (cell free l) s v) (sym zero_list)
      (same_meets zero_limits (cell free (tabled zero_limits)) (λ i j hi hj. sym (tabled_cell free zero_limits i j hi hj)) s (count_at v) (subst (Holds zero_limits s) (sym e) (zero_forth s))),
)

pub within_exactly : (a b : Zone) → WithinExact a b (zone_within a b)
within_exactly a b = within_exact limit_embeds (limit_list a) (limit_list b)

pub empty_exactly : (z : Zone) → EmptyExact z (zone_empty z)
empty_exactly z = empty_exact limit_embeds (limit_list z)

-- zones with equal readings have the same closed form
module _ (a b : Zone) (same : Alike zone_holds a b) where
  pub form_same : canonical_form limit_leb limit_plus (up_to (pos 0)) free (under (pos 0)) (limit_list a) ≡ canonical_form limit_leb limit_plus (up_to (pos 0)) free (under (pos 0)) (limit_list b)
  form_same = form_one limit_embeds (limit_list a) (limit_list b) (λ s v p six. (same.0 s v p six, same.1 s v p six))

  gap_same_by : (g : Gap) (good : Bool) → good_gap g ≡ good → zone_gap a g ≡ zone_gap b g
  gap_same_by g true e =
      let in-range = clocks_in a g e in
      ap (λ l. cond (good_gap g) (kept_zone l) (Err bad_argument))
      (cut_one limit_embeds (limit_list a) (limit_list b) g.first g.second (gap_limit g) in-range.0 in-range.1 (λ s v p six. (same.0 s v p six, same.1 s v p six)))
  gap_same_by g false e =
      cond-false (good_gap g) (kept_zone (cut_list a g)) (Err bad_argument) e ∙ sym (cond-false (good_gap g) (kept_zone (cut_list b g)) (Err bad_argument) e)

  pub gap_same : (g : Gap) → zone_gap a g ≡ zone_gap b g
  gap_same g = gap_same_by g (good_gap g) refl

  pub reset_same : (mask : ℕ) → zone_reset a mask ≡ zone_reset b mask
  reset_same mask = ap (λ o. cond (good_mask mask) (kept_zone (reset_of limit_leb limit_plus (up_to (pos 0)) free (under (pos 0)) (in_mask mask) o)) (Err bad_argument)) form_same

  pub delay_same : zone_delay a ≡ zone_delay b
  delay_same = ap (λ o. kept_zone (delay_of limit_leb limit_plus (up_to (pos 0)) free (under (pos 0)) o)) form_same

-- the meaning of an answer
pub gap_stands : (z : Zone) (g : Gap) (r : Result Zone Slip) → r ≡ zone_gap z g → GapStands z g r
gap_stands z g r is = subst (GapStands z g) (sym is) (record { exact = gap_exact z g; formed = gap_formed z g; bad = gap_bad z g; large = gap_large z g })

pub reset_stands : (z : Zone) (mask : ℕ) (r : Result Zone Slip) → r ≡ zone_reset z mask → ResetStands z mask r
reset_stands z mask r is =
    subst (ResetStands z mask) (sym is) (record { exact = reset_exactly z mask; formed = reset_formed z mask; bad = reset_bad z mask; large = reset_too_large z mask })

pub delay_stands : (z : Zone) (r : Result Zone Slip) → r ≡ zone_delay z → DelayStands z r
delay_stands z r is = subst (DelayStands z) (sym is) (record { exact = delay_exactly z; formed = delay_formed z; large = delay_too_large z })

pub canonical : Canonical
canonical a b = (
  form_same a b,
  λ e. let alike = one_alike limit_embeds (limit_list a) (limit_list b) e in (λ s v p six. (alike s v p six).0, λ s v p six. (alike s v p six).1),
)

pub cases_stand : CasesStand
unfolding closing one_pass empty_form tabled
cases_stand = (refl, refl)
