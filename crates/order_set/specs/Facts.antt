-- What the calls of an order set mean, from the lists of signs that they make.
use Rattle.std.specs.Prelude.{◌≡◌, ℕ, ◌+◌, ◌*◌, ◌<◌, Bool, true, false, cond, not, ◌⊎◌, ◌↔◌, List, [], ◌∷◌, map, length, Some, None, Ok, Err, Result, ◌≢◌, nat_le, slice_index_or, refl}
use Rattle.std.proofs.Common.{sym, ◌∙◌, ap, subst, inl, inr, ⊎_elim, arith}
use Rattle.std.proofs.lemmas.Bool.{and_parts, both_ways, cond-false, leb-true}
use Rattle.slip.specs.declared.Slip.{Slip}
use Rattle.clocks.specs.declared.Gap.{Gap}
use Rattle.clocks.specs.Gaps.{good_gap, good_mask}
use Rattle.clocks.specs.Readings.{Reading, in_mask, count_at}
use Rattle.clockset.specs.Laws.{bad_argument, Alike}
use Rattle.weight.specs.declared.order_sign.OrderSign.{OrderSign}
use Rattle.weight.specs.declared.order_sign.OrderSign.TheVariants.{Below, AtMost, Free}
use Rattle.weight.specs.Closing.{empty_form}
use Rattle.weight.specs.Signs.{sign_leb, sign_plus, sign_limit}
use Rattle.zone_theory.specs.Gaps.{gap_sign}
use Rattle.zone_theory.specs.Matrices.{zero_limits, all_limits}
use Rattle.zone_theory.specs.Readings.{Holds, Fine}
use Rattle.zone_theory.specs.Sets.{tabled, view, tight, canonical_form, cut_form, reset_of, reset_form, delay_of, delay_form, is_none, empty_test}
use Rattle.zone_theory.proofs.Forms.{sign_embeds, tight_view, cut_exact, cut_shape, cut_length, cut_one, reset_exact, reset_shape, reset_length, delay_exact, delay_shape, delay_length, within_exact, empty_exact, form_one, one_alike}
use Rattle.zone_theory.proofs.Kept.{same_meets}
use Rattle.zone_theory.proofs.Moves.{all_forth, zero_back, zero_forth}
use Rattle.zone_theory.proofs.Tables.{tabled_cell, tabled_from, tabled_length}
use Rattle.order_set.specs.declared.OrderSet.{OrderSet}
use Rattle.order_set.specs.Exact.{empty_order, Formed, GapExact, ResetExact, DelayExact, Comes, GapStands, ResetStands, DelayStands, ZeroExact, WithinExact, EmptyExact, Canonical}
use Rattle.order_set.specs.Orders.{sign_list, order_holds, stored, order_all, order_zero, order_gap, order_reset, order_delay, order_within, order_empty}

pub map_self : (xs : List OrderSign) → map (λ x. x) xs ≡ xs
map_self [] = refl
map_self (x ∷ xs) = ap (λ ys. x ∷ ys) (map_self xs)

-- the signs that were stored are found again
pub read_again : (xs : List OrderSign) → length xs ≡ 49 → sign_list (stored xs) ≡ xs
read_again xs long = sym (tabled_from Below (λ i j. slice_index_or xs (7 * i + j) Below) xs long (λ i j hi hj. refl))

-- the signs of a set, as a matrix of weights reads them
pub signs_list : (a : OrderSet) → length a.signs ≡ 49 → map (λ x. x) a.signs ≡ sign_list a
signs_list a long = map_self a.signs ∙ tabled_from Below (λ i j. slice_index_or a.signs (7 * i + j) Below) a.signs long (λ i j hi hj. refl)

good_ok : (good : Bool) (xs : List OrderSign) (b : OrderSet) → cond good (Ok (stored xs)) (Err bad_argument) ≡ Ok b → (good ≡ true) × (b ≡ stored xs)
good_ok true xs b e = (refl, cc)
good_ok false xs b e = absurd (let z : ◌≡◌ {A = ℕ} 0 1 = cc in omega arith)

ok_stored : (xs : List OrderSign) (b : OrderSet) → ◌≡◌ {A = Result OrderSet Slip} (Ok (stored xs)) (Ok b) → b ≡ stored xs
ok_stored xs b e = cc

comes : (good : Bool) (xs : List OrderSign) → Comes good (cond good (Ok (stored xs)) (Err bad_argument))
comes true xs = (λ e. (stored xs, refl), λ e. absurd (both_ways true e refl))
comes false xs = (λ e. absurd (both_ways false refl e), λ e. refl)

pub good_slip : (good : Bool) (xs : List OrderSign) (e : Slip) → good ≡ true → cond good (Ok (stored xs)) (Err bad_argument) ≢ Err e
good_slip true xs e g is = let z : ◌≡◌ {A = ℕ} 0 1 = cc in omega arith
good_slip false xs e g is = both_ways false refl g

-- a set that is made of 49 signs has their readings, and their form
module _ (xs : List OrderSign) (long : length xs ≡ 49) (b : OrderSet) (is : b ≡ stored xs) where
  list_is : sign_list b ≡ xs
  list_is = ap sign_list is ∙ read_again xs long

  made_holds : (s : ℕ) (v : Reading) {P : Type 0} → Holds (view sign_limit Free xs) s v ↔ P → order_holds b s v ↔ P
  made_holds s v x = (
    λ h. x.0 (subst (λ l. Holds (view sign_limit Free l) s v) list_is h),
    λ h. subst (λ l. Holds (view sign_limit Free l) s v) (sym list_is) (x.1 h),
  )

  made_formed : Fine (view sign_limit Free xs) ⊎ (xs ≡ empty_form Below) → Fine (view sign_limit Free (sign_list b)) ⊎ (b ≡ empty_order)
  made_formed shape = ⊎_elim (λ fine. inl (subst (λ l. Fine (view sign_limit Free l)) (sym list_is) fine)) (λ none. inr (is ∙ ap stored none)) shape

-- gaps
module _ (a : OrderSet) (g : Gap) where
  abbrev pub cut_list : List OrderSign
  cut_list = cut_form sign_leb sign_plus AtMost Free Below (sign_list a) g.first g.second (gap_sign g)

  clocks_in : good_gap g ≡ true → (g.first < 7) × (g.second < 7)
  clocks_in good =
      let p = and_parts (nat_le g.first 6) _ good in
      let q = and_parts (nat_le g.second 6) _ p.1 in
      (omega (arith, leb-true g.first 6 p.0), omega (arith, leb-true g.second 6 q.0))

  cut_long : length cut_list ≡ 49
  cut_long = cut_length sign_embeds (sign_list a) g.first g.second (gap_sign g)

  pub gap_exact : GapExact a g (order_gap a g)
  gap_exact b e s v p six =
      let ok = good_ok (good_gap g) cut_list b e in
      let in-range = clocks_in ok.0 in
      made_holds cut_list cut_long b ok.1 s v (cut_exact sign_embeds (sign_list a) g.first g.second (gap_sign g) in-range.0 in-range.1 s v p)

  gap_formed : Formed (order_gap a g)
  gap_formed b e = made_formed cut_list cut_long b (good_ok (good_gap g) cut_list b e).1 (cut_shape sign_embeds (sign_list a) g.first g.second (gap_sign g))

  pub gap_stands : (r : Result OrderSet Slip) → r ≡ order_gap a g → GapStands a g r
  gap_stands r is = subst (GapStands a g) (sym is) (record { exact = gap_exact; formed = gap_formed; comes = comes (good_gap g) cut_list })

-- resets
module _ (a : OrderSet) (mask : ℕ) where
  abbrev pub reset_list : List OrderSign
  reset_list = reset_form sign_leb sign_plus AtMost Free Below (in_mask mask) (sign_list a)

  pub reset_exactly : ResetExact a mask (order_reset a mask)
  reset_exactly b e s v p six =
      made_holds reset_list (reset_length sign_embeds (in_mask mask) (sign_list a)) b (good_ok (good_mask mask) reset_list b e).1 s v (reset_exact sign_embeds (in_mask mask) (sign_list a) s v p six)

  reset_formed : Formed (order_reset a mask)
  reset_formed b e =
      made_formed reset_list (reset_length sign_embeds (in_mask mask) (sign_list a)) b (good_ok (good_mask mask) reset_list b e).1 (reset_shape sign_embeds (in_mask mask) (sign_list a))

  pub reset_stands : (r : Result OrderSet Slip) → r ≡ order_reset a mask → ResetStands a mask r
  reset_stands r is = subst (ResetStands a mask) (sym is) (record { exact = reset_exactly; formed = reset_formed; comes = comes (good_mask mask) reset_list })

-- delays
module _ (a : OrderSet) where
  abbrev pub delay_list : List OrderSign
  delay_list = delay_form sign_leb sign_plus AtMost Free Below (sign_list a)

  pub delay_exactly : DelayExact a (order_delay a)
  delay_exactly b e s v p six = made_holds delay_list (delay_length sign_embeds (sign_list a)) b (ok_stored delay_list b e) s v (delay_exact sign_embeds (sign_list a) s v p six)

  delay_formed : Formed (order_delay a)
  delay_formed b e = made_formed delay_list (delay_length sign_embeds (sign_list a)) b (ok_stored delay_list b e) (delay_shape sign_embeds (sign_list a))

  pub delay_stands : (r : Result OrderSet Slip) → r ≡ order_delay a → DelayStands a r
  delay_stands r is = subst (DelayStands a) (sym is) (record { exact = delay_exactly; formed = delay_formed; comes = comes true delay_list })

-- the sets to start from
pub all_in : (s : ℕ) (v : Reading) → order_holds order_all s v
all_in s v =
    let d = tight sign_leb sign_plus AtMost Free Below (λ i j. Free) in
    (made_holds (tabled d) (tabled_length d) order_all refl s v {P = Holds all_limits s v} (
      same_meets (view sign_limit Free (tabled d)) all_limits (λ i j hi hj. ap sign_limit (tabled_cell Free d i j hi hj) ∙ tight_view sign_embeds (λ i j. Free) i j) s (count_at v),
      same_meets all_limits (view sign_limit Free (tabled d)) (λ i j hi hj. sym (ap sign_limit (tabled_cell Free d i j hi hj) ∙ tight_view sign_embeds (λ i j. Free) i j)) s (count_at v),
    )
    ).1 (all_forth s v)

pub zero_exact : ZeroExact order_zero
zero_exact s v p six =
    made_holds (tabled (λ i j. AtMost)) (tabled_length (λ i j. AtMost)) order_zero refl s v (
      λ h. zero_back s v six (same_meets (view sign_limit Free (tabled (λ i j. AtMost))) zero_limits (λ i j hi hj. ap sign_limit (tabled_cell Free (λ i j. AtMost) i j hi hj)) s (count_at v) h),
      λ e.
          same_meets zero_limits (view sign_limit Free (tabled (λ i j. AtMost))) (λ i j hi hj. sym (ap sign_limit (tabled_cell Free (λ i j. AtMost) i j hi hj))) s (count_at v)
          (subst (Holds zero_limits s) (sym e) (zero_forth s)),
    )

pub within_exactly : (a b : OrderSet) → WithinExact a b (order_within a b)
within_exactly a b = within_exact sign_embeds (sign_list a) (sign_list b)

pub found_empty : (xs ys : List OrderSign) (r : Bool) → canonical_form sign_leb sign_plus AtMost Free Below xs ≡ cond r (Some ys) None → not r ≡ empty_test sign_leb sign_plus AtMost Free Below xs
found_empty xs ys true e = sym (ap (is_none sign_leb sign_plus AtMost Free Below) e)
found_empty xs ys false e = sym (ap (is_none sign_leb sign_plus AtMost Free Below) e)

pub empty_exactly : (a : OrderSet) → EmptyExact a (order_empty a)
empty_exactly a = empty_exact sign_embeds (sign_list a)

-- sets with equal readings have the same closed form
module _ (a b : OrderSet) (same : Alike order_holds a b) where
  form_same : canonical_form sign_leb sign_plus AtMost Free Below (sign_list a) ≡ canonical_form sign_leb sign_plus AtMost Free Below (sign_list b)
  form_same = form_one sign_embeds (sign_list a) (sign_list b) (λ s v p six. (same.0 s v p six, same.1 s v p six))

  gap_same_by : (g : Gap) (good : Bool) → good_gap g ≡ good → order_gap a g ≡ order_gap b g
  gap_same_by g true e =
      let in-range = clocks_in a g e in
      ap (λ l. cond (good_gap g) (Ok (stored l)) (Err bad_argument))
      (cut_one sign_embeds (sign_list a) (sign_list b) g.first g.second (gap_sign g) in-range.0 in-range.1 (λ s v p six. (same.0 s v p six, same.1 s v p six)))
  gap_same_by g false e =
      cond-false (good_gap g) (Ok (stored (cut_list a g))) (Err bad_argument) e ∙ sym (cond-false (good_gap g) (Ok (stored (cut_list b g))) (Err bad_argument) e)

  pub gap_same : (g : Gap) → order_gap a g ≡ order_gap b g
  gap_same g = gap_same_by g (good_gap g) refl

  pub reset_same : (mask : ℕ) → order_reset a mask ≡ order_reset b mask
  reset_same mask = ap (λ o. cond (good_mask mask) (Ok (stored (reset_of sign_leb sign_plus AtMost Free Below (in_mask mask) o))) (Err bad_argument)) form_same

  pub delay_same : order_delay a ≡ order_delay b
  delay_same = ap (λ o. Ok (stored (delay_of sign_leb sign_plus AtMost Free Below o))) form_same

pub canonical : Canonical
canonical a b = (
  form_same a b,
  λ e. let alike = one_alike sign_embeds (sign_list a) (sign_list b) e in (λ s v p six. (alike s v p six).0, λ s v p six. (alike s v p six).1),
)
