-- Gaps may cut modest bounds one after another and be closed once: it is the same as a closing after each.
use Rattle.std.proofs.Common.{◌≡◌, ℕ, ◌<◌, ◌≤◌, Bool, true, false, cond, eqb, leb, List, [], ◌∷◌, map, length, ℤ, pos, negsuc, nat_abs, Some, None, Ok, Err, Option, sym, refl, ap, ◌∙◌, subst, ⊎_elim, arith}
use Rattle.std.proofs.lemmas.Bool.{and_parts, cases_Bool, cond-false, cond-true, eqb-false, leb-true}
use Rattle.slip.specs.declared.Slip.{Slip}
use Rattle.clocks.specs.declared.Gap.{Gap}
use Rattle.clocks.specs.declared.Sign.{Sign}
use Rattle.clocks.specs.declared.Sign.TheVariants.{Below, AtMost}
use Rattle.clocks.specs.Gaps.{good_gap, plus_part, minus_part}
use Rattle.clockset.specs.Calls.{◌⨾◌, cut_all}
use Rattle.clockset.specs.Laws.{bad_argument, bound_too_large}
use Rattle.weight.specs.declared.bound.Bound.{Bound}
use Rattle.weight.specs.Bounds.{limit_of, limit_size, all_within, all_small}
use Rattle.weight.specs.Closing.{cell, empty_form, Within}
use Rattle.weight.specs.Limits.{Limit, under, up_to, free, limit_leb, limit_plus}
use Rattle.weight.specs.Limited.{limit_laws, limit_grows}
use Rattle.weight.proofs.Matrix.{closing_room}
use Rattle.weight.proofs.Sizes.{all_within_is, within_list, small_is}
use Rattle.zone_theory.specs.Gaps.{gap_limit, limit_by}
use Rattle.zone_theory.specs.Readings.{Alike}
use Rattle.zone_theory.specs.Sets.{tabled, tight, canonical_form, or_empty, cut_weights}
use Rattle.zone_theory.proofs.Forms.{limit_embeds, cut_length, cut_one, form_alike, form_length}
use Rattle.zone_theory.proofs.Larges.{empty_small}
use Rattle.zone_theory.proofs.Tables.{tabled_cell}
use Rattle.matrix.proofs.Loops.{cut_room, tight_room}
use Rattle.zone.specs.declared.Zone.{Zone}
use Rattle.zone.specs.Zones.{limit_list, limits, stored, kept_zone, zone_gap, raw_cuts, formed, zone_calls}
use Rattle.zone.specs.Facts.{clocks_in, cut_list}
use Rattle.zone.specs.Forms.{formed_is}
use Rattle.zone.specs.Kept.{read_again, stored_one}

-- every constant is at most 31,250 either way
abbrev pub Modest : List Limit → Type 0
Modest ls = Within limit_size free 31250 ls

-- the closed form of modest limits is kept
small_by : (ls : List Limit) → Modest ls → (o : Option (List Limit)) → canonical_form limit_leb limit_plus (up_to (pos 0)) free (under (pos 0)) ls ≡ o
    → all_small (or_empty limit_leb limit_plus (up_to (pos 0)) free (under (pos 0)) o) ≡ true
small_by ls room (Some new) is =
    let wide = tight_room limit_leb limit_plus (up_to (pos 0)) free (under (pos 0)) limit_size 31250 ls room (omega arith) in
    let most = closing_room limit_laws free (tabled (tight limit_leb limit_plus (up_to (pos 0)) free (under (pos 0)) (cell free ls))) limit_size limit_grows 31250 wide new is in
    small_is new ∙ within_list 4000000 new (form_length limit_embeds ls new is) (λ i j hi hj. omega (arith, most i j hi hj))
small_by ls room None is = empty_small

pub formed_small : (ls : List Limit) → Modest ls → all_small (formed ls) ≡ true
formed_small ls room = small_by ls room (canonical_form limit_leb limit_plus (up_to (pos 0)) free (under (pos 0)) ls) refl

-- a good gap's constant is modest
constant_modest : (z : ℤ) → plus_part z ≤ 9999 → minus_part z ≤ 9999 → nat_abs z ≤ 31250
constant_modest (pos n) p m = omega arith
constant_modest (negsuc n) p m = omega arith

limit_modest : (s : Sign) (z : ℤ) → nat_abs z ≤ 31250 → limit_size (limit_by s z) ≤ 31250
limit_modest Below z h = h
limit_modest AtMost z h = h

gap_modest : (g : Gap) → good_gap g ≡ true → limit_size (gap_limit g) ≤ 31250
gap_modest g good =
    let a = and_parts (leb g.first 6) _ good in
    let b = and_parts (leb g.second 6) _ a.1 in
    let c = and_parts _ _ b.1 in
    let d = and_parts (leb (plus_part g.constant) 9999) (leb (minus_part g.constant) 9999) c.1 in
    limit_modest g.sign g.constant (constant_modest g.constant (leb-true _ _ d.0) (leb-true _ _ d.1))

module _ (g : Gap) (ls : List Limit) where
  abbrev new_list : List Limit
  new_list = tabled (cut_weights limit_leb limit_plus (up_to (pos 0)) free (under (pos 0)) (cell free ls) g.first g.second (gap_limit g))

  new_modest : good_gap g ≡ true → Modest ls → Modest new_list
  new_modest good room =
      cut_room limit_leb limit_plus (up_to (pos 0)) free (under (pos 0)) limit_size 31250 ls new_list g.first g.second (gap_limit g) room (gap_modest g good)
      (tabled_cell free (cut_weights limit_leb limit_plus (up_to (pos 0)) free (under (pos 0)) (cell free ls) g.first g.second (gap_limit g)))

  -- the zone of the same readings is cut to the closed form
  module _ (z : Zone) (good : good_gap g ≡ true) (room : Modest ls) (same : Alike (limits z) (cell free ls)) where
    gap_comes : zone_gap z g ≡ Ok (stored (formed new_list))
    gap_comes =
        let in-range = clocks_in z g good in
        cond-true (good_gap g) (kept_zone (cut_list z g)) (Err bad_argument) good
        ∙ ap kept_zone (cut_one limit_embeds (limit_list z) ls g.first g.second (gap_limit g) in-range.0 in-range.1 same)
        ∙ cond-true (all_small (formed new_list)) (Ok (stored (formed new_list))) (Err bound_too_large) (formed_small new_list (new_modest good room))

    gap_same_readings : Alike (limits (stored (formed new_list))) (cell free new_list)
    gap_same_readings s v p six =
        let again = read_again (formed new_list) (cut_length limit_embeds ls g.first g.second (gap_limit g)) (formed_small new_list (new_modest good room)) in
        let a = form_alike limit_embeds new_list s v p in
        subst (λ l. Alike (cell free l) (cell free new_list)) (sym again) (λ s v p six. let b = form_alike limit_embeds new_list s v p in (b.1, b.0)) s v p six

-- one gap, and the others after it
turn : (gs : List Gap) (g : Gap) (ls : List Limit) (z : Zone) → Modest ls → Alike (limits z) (cell free ls)
    → (good_gap g ≡ true → cut_all zone_calls gs (stored (formed (new_list g ls))) ≡ (raw_cuts gs (new_list g ls) ⨾ λ new. Ok (stored (formed new))))
    → cut_all zone_calls (g ∷ gs) z ≡ (raw_cuts (g ∷ gs) ls ⨾ λ new. Ok (stored (formed new)))
turn gs g ls z room same next =
    ⊎_elim
    (λ good.
    ap (λ r. r ⨾ cut_all zone_calls gs) (gap_comes g ls z good room same)
    ∙ next good
    ∙ sym (ap (λ r. (r ⨾ raw_cuts gs) ⨾ λ new. Ok (stored (formed new))) (cond-true (good_gap g) (Ok (new_list g ls)) (Err bad_argument) good)))
    (λ bad.
    ap (λ r. r ⨾ cut_all zone_calls gs) (cond-false (good_gap g) (kept_zone (cut_list z g)) (Err bad_argument) bad)
    ∙ sym (ap (λ r. (r ⨾ raw_cuts gs) ⨾ λ new. Ok (stored (formed new))) (cond-false (good_gap g) (Ok (new_list g ls)) (Err bad_argument) bad)))
    (cases_Bool (good_gap g))

batch_from : (gs : List Gap) (g : Gap) (ls : List Limit) (z : Zone) → Modest ls → Alike (limits z) (cell free ls)
    → cut_all zone_calls (g ∷ gs) z ≡ (raw_cuts (g ∷ gs) ls ⨾ λ new. Ok (stored (formed new)))
batch_from [] g ls z room same = turn [] g ls z room same (λ good. refl)
batch_from (h ∷ hs) g ls z room same =
    turn (h ∷ hs) g ls z room same (λ good. batch_from hs h (new_list g ls) (stored (formed (new_list g ls))) (new_modest g ls good room) (gap_same_readings g ls z good room same))

-- the whole: at least one gap cuts a zone whose limits are modest
pub batch : (gs : List Gap) (z : Zone) → 0 < length gs → Modest (limit_list z) → cut_all zone_calls gs z ≡ (raw_cuts gs (limit_list z) ⨾ λ new. Ok (stored (formed new)))
batch [] z some room = absurd (omega arith)
batch (g ∷ gs) z some room = batch_from gs g (limit_list z) z room (λ s v p six. (λ h. h, λ h. h))

-- cuts leave modest limits modest
pub raw_modest : (gs : List Gap) (ls new : List Limit) → Modest ls → raw_cuts gs ls ≡ Ok new → Modest new
raw_modest [] ls new room is = let e : ls ≡ new = cc in subst Modest e room
raw_modest (g ∷ gs) ls new room is =
    ⊎_elim
    (λ good. raw_modest gs (new_list g ls) new (new_modest g ls good room) (sym (ap (λ r. r ⨾ raw_cuts gs) (cond-true (good_gap g) (Ok (new_list g ls)) (Err bad_argument) good)) ∙ is))
    (λ bad. absurd (let e = sym (ap (λ r. r ⨾ raw_cuts gs) (cond-false (good_gap g) (Ok (new_list g ls)) (Err bad_argument) bad)) ∙ is in let x : ◌≡◌ {A = ℕ} 0 1 = cc in omega arith))
    (cases_Bool (good_gap g))

-- what the code finds, with the bounds that it loaded
module _ (gs : List Gap) (z : Zone) (m : List Bound) (same : map limit_of m ≡ limit_list z) (some : false ≡ eqb (length gs) 0) (small : true ≡ all_within 31250 (map limit_of m)) where
  modest : Modest (map limit_of m)
  modest = all_within_is 31250 (map limit_of m) (sym small)

  whole : cut_all zone_calls gs z ≡ (raw_cuts gs (map limit_of m) ⨾ λ new. Ok (stored (formed new)))
  whole =
      let ne = eqb-false (length gs) 0 (sym some) in
      rw same (batch gs z (omega arith) (subst Modest same modest))

  pub batch_stops : (e : Slip) → raw_cuts gs (map limit_of m) ≡ Err e → cut_all zone_calls gs z ≡ Err e
  batch_stops e is = whole ∙ ap (λ r. r ⨾ λ new. Ok (stored (formed new))) is

  pub batch_room : (ls : List Limit) → raw_cuts gs (map limit_of m) ≡ Ok ls → Within limit_size free 4194304 ls
  batch_room ls is i j hi hj = omega (arith, raw_modest gs (map limit_of m) ls modest is i j hi hj)

  pub batch_comes : (ls : List Limit) (new : List Bound) (r : Bool) → raw_cuts gs (map limit_of m) ≡ Ok ls
      → canonical_form limit_leb limit_plus (up_to (pos 0)) free (under (pos 0)) ls ≡ cond r (Some (map limit_of new)) None → (r ≡ false → map limit_of new ≡ empty_form (under (pos 0)))
      → Ok (record { bounds = new }) ≡ cut_all zone_calls gs z
  batch_comes ls new r is form none =
      ap (λ (x : Zone). Ok x) (stored_one new (formed ls) (formed_is ls (map limit_of new) r form none)) ∙ sym (whole ∙ ap (λ r. r ⨾ λ new. Ok (stored (formed new))) is)
