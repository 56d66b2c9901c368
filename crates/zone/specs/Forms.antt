-- A zone's closed form answers as the zone does.
use Rattle.std.specs.Prelude.{◌≡◌, suc, ◌<◌, Bool, true, false, cond, not, ◌||◌, List, [], ◌∷◌, map, length, get_or, pos, Some, None, Ok, Err, Option, Result, ◌==◌, slice_index_or, refl}
use Rattle.std.proofs.Common.{sym, ◌∙◌, ap, arith}
use Rattle.std.proofs.lemmas.List.{get_or-map, length-map}
use Rattle.std.proofs.lemmas.Bool.{eqb-false, eqb-true}
use Rattle.slip.specs.declared.Slip.{Slip}
use Rattle.clocks.specs.declared.Gap.{Gap}
use Rattle.clocks.specs.Gaps.{good_gap}
use Rattle.clockset.specs.Calls.{◌⨾◌, cut_all}
use Rattle.weight.specs.Bounds.{limit_of, bound_of, limit_size}
use Rattle.weight.specs.Closing.{cell, empty_form}
use Rattle.weight.specs.Limits.{Limit, under, up_to, free, limit_leb, limit_plus}
use Rattle.weight.specs.Limited.{limit_laws, limit_grows}
use Rattle.weight.proofs.Matrix.{closing_room, empty_cell}
use Rattle.weight.proofs.Sizes.{within_list, limits_again}
use Rattle.zone_theory.specs.Gaps.{gap_limit}
use Rattle.zone_theory.specs.Sets.{tabled, tight, canonical_form, or_empty, cut_weights, beneath_all, within_of, is_none}
use Rattle.zone_theory.proofs.Forms.{limit_embeds, cut_length, form_alike, form_closes, form_length, form_one}
use Rattle.zone_theory.proofs.Tables.{empty_length}
use Rattle.matrix.proofs.Loops.{formed_is as form-left, tight_room}
use Rattle.zone.specs.declared.Zone.{Zone}
use Rattle.zone.specs.Zones.{limit_list, stored, kept_zone, formed, zone_calls, zone_gap, zone_closed, zone_within, zone_empty, zone_closed_empty, zone_closed_within}
use Rattle.zone.specs.Facts.{cut_list, good_ok, kept_list, kept_stored}
use Rattle.zone.specs.Kept.{read_room}

-- the form that a closing leaves
pub formed_is : (xs ys : List Limit) (r : Bool) → canonical_form limit_leb limit_plus (up_to (pos 0)) free (under (pos 0)) xs ≡ cond r (Some ys) None → (r ≡ false → ys ≡ empty_form (under (pos 0))) → ys ≡ formed xs
formed_is = form-left limit_leb limit_plus (up_to (pos 0)) free (under (pos 0))

module _ (z : Zone) where
  -- limits that came from the zone are found again from their bounds
  again_by : (o : Option (List Limit)) → canonical_form limit_leb limit_plus (up_to (pos 0)) free (under (pos 0)) (limit_list z) ≡ o
      → map limit_of (map bound_of (or_empty limit_leb limit_plus (up_to (pos 0)) free (under (pos 0)) o)) ≡ or_empty limit_leb limit_plus (up_to (pos 0)) free (under (pos 0)) o
  again_by (Some ys) is =
      let wide = tight_room limit_leb limit_plus (up_to (pos 0)) free (under (pos 0)) limit_size 4194304 (limit_list z) (read_room z) (omega arith) in
      let room = closing_room limit_laws free (tabled (tight limit_leb limit_plus (up_to (pos 0)) free (under (pos 0)) (cell free (limit_list z)))) limit_size limit_grows 4194304 wide ys is in
      limits_again 536870912 (omega arith) ys (within_list 536870912 ys (form_length limit_embeds (limit_list z) ys is) (λ i j hi hj. omega (arith, room i j hi hj)))
  again_by None is =
      limits_again 0 (omega arith) (empty_form (under (pos 0)))
      (within_list 0 (empty_form (under (pos 0))) (empty_length (under (pos 0))) (λ i j hi hj. rw (empty_cell free (under (pos 0)) i j hi hj) (omega arith)))

  length_by : (o : Option (List Limit)) → canonical_form limit_leb limit_plus (up_to (pos 0)) free (under (pos 0)) (limit_list z) ≡ o
      → length (or_empty limit_leb limit_plus (up_to (pos 0)) free (under (pos 0)) o) ≡ 49
  length_by (Some ys) is = form_length limit_embeds (limit_list z) ys is
  length_by None is = empty_length (under (pos 0))

  -- what the form says, by its first place
  empty_by : (o : Option (List Limit)) → canonical_form limit_leb limit_plus (up_to (pos 0)) free (under (pos 0)) (limit_list z) ≡ o
      → zone_closed_empty (stored (or_empty limit_leb limit_plus (up_to (pos 0)) free (under (pos 0)) o)) ≡ is_none limit_leb limit_plus (up_to (pos 0)) free (under (pos 0)) o
  empty_by o is =
      let ls = or_empty limit_leb limit_plus (up_to (pos 0)) free (under (pos 0)) o in
      let long = length_by o is in
      let many : 0 < length (map bound_of ls) = simp length-map (omega arith) in
      let first : limit_of (slice_index_or (map bound_of ls) 0 (record { code = pos 0 })) ≡ cell free ls 0 0
      = sym (get_or-map limit_of (map bound_of ls) 0 (record { code = pos 0 }) free many) ∙ ap (λ xs. get_or xs 0 free) (again_by o is) in
      ap (λ l. not (limit_leb (up_to (pos 0)) l)) first ∙ by o is
    where
      by : (o : Option (List Limit)) → canonical_form limit_leb limit_plus (up_to (pos 0)) free (under (pos 0)) (limit_list z) ≡ o
          → not (limit_leb (up_to (pos 0)) (cell free (or_empty limit_leb limit_plus (up_to (pos 0)) free (under (pos 0)) o) 0 0)) ≡ is_none limit_leb limit_plus (up_to (pos 0)) free (under (pos 0)) o
      by (Some ys) is = ap not ((form_closes limit_embeds (limit_list z) ys is).sound 0 (omega arith))
      by None is = ap (λ l. not (limit_leb (up_to (pos 0)) l)) (empty_cell free (under (pos 0)) 0 0 (omega arith) (omega arith))

  pub closed_empty_is : zone_closed_empty (zone_closed z) ≡ zone_empty z
  closed_empty_is = empty_by (canonical_form limit_leb limit_plus (up_to (pos 0)) free (under (pos 0)) (limit_list z)) refl

  module _ (b : Zone) where
    within_by : (o : Option (List Limit)) → canonical_form limit_leb limit_plus (up_to (pos 0)) free (under (pos 0)) (limit_list z) ≡ o
        → zone_closed_within (stored (or_empty limit_leb limit_plus (up_to (pos 0)) free (under (pos 0)) o)) b ≡ within_of limit_leb limit_plus (up_to (pos 0)) free (under (pos 0)) o (limit_list b)
    within_by (Some ys) is =
        ap (λ t. t || beneath_all limit_leb limit_plus (up_to (pos 0)) free (under (pos 0)) (map limit_of (map bound_of ys)) (limit_list b)) (empty_by (Some ys) is)
        ∙ ap (λ xs. beneath_all limit_leb limit_plus (up_to (pos 0)) free (under (pos 0)) xs (limit_list b)) (again_by (Some ys) is)
    within_by None is =
        ap (λ t. t || beneath_all limit_leb limit_plus (up_to (pos 0)) free (under (pos 0)) (map limit_of (map bound_of (empty_form (under (pos 0))))) (limit_list b)) (empty_by None is)

    pub closed_within_is : zone_closed_within (zone_closed z) b ≡ zone_within z b
    closed_within_is = within_by (canonical_form limit_leb limit_plus (up_to (pos 0)) free (under (pos 0)) (limit_list z)) refl

-- closing again changes nothing
formed_again : (ls : List Limit) → formed (formed ls) ≡ formed ls
formed_again ls =
    ap (or_empty limit_leb limit_plus (up_to (pos 0)) free (under (pos 0)))
    (form_one limit_embeds (formed ls) ls (λ s v p six. let a = form_alike limit_embeds ls s v p in (a.1, a.0)))

-- what a gap leaves is closed
gap_closed : (z : Zone) (g : Gap) (b : Zone) → zone_gap z g ≡ Ok b → zone_closed b ≡ b
gap_closed z g b e =
    let kept = (good_ok (good_gap g) (kept_zone (cut_list z g)) b e).1 in
    let is = kept_list (cut_list z g) (cut_length limit_embeds (limit_list z) g.first g.second (gap_limit g)) b kept in
    ap (λ l. stored (formed l)) is
    ∙ ap stored (formed_again (tabled (cut_weights limit_leb limit_plus (up_to (pos 0)) free (under (pos 0)) (cell free (limit_list z)) g.first g.second (gap_limit g))))
    ∙ sym (kept_stored (cut_list z g) b kept).1

last_closed : (z : Zone) (g : Gap) (r : Result Zone Slip) → zone_gap z g ≡ r → ((r ⨾ λ b. Ok b) ⨾ λ b. Ok (zone_closed b)) ≡ (r ⨾ λ b. Ok b)
last_closed z g (Ok b) e = ap (λ (x : Zone). Ok x) (gap_closed z g b e)
last_closed z g (Err x) e = refl

then_closed : (r : Result Zone Slip) (f : Zone → Result Zone Slip) → ((b : Zone) → (f b ⨾ λ x. Ok (zone_closed x)) ≡ f b) → ((r ⨾ f) ⨾ λ x. Ok (zone_closed x)) ≡ (r ⨾ f)
then_closed (Ok b) f same = same b
then_closed (Err x) f same = refl

-- and so is what several leave
closed_after : (gs : List Gap) (g : Gap) (z : Zone) → (cut_all zone_calls (g ∷ gs) z ⨾ λ b. Ok (zone_closed b)) ≡ cut_all zone_calls (g ∷ gs) z
closed_after [] g z = last_closed z g (zone_gap z g) refl
closed_after (h ∷ hs) g z = then_closed (zone_gap z g) (cut_all zone_calls (h ∷ hs)) (closed_after hs h)

pub cut_leaves_closed : (gs : List Gap) (z : Zone) → false ≡ (length gs == 0) → (cut_all zone_calls gs z ⨾ λ b. Ok (zone_closed b)) ≡ cut_all zone_calls gs z
cut_leaves_closed [] z some = absurd (eqb-false 0 0 (sym some) refl)
cut_leaves_closed (g ∷ gs) z some = closed_after gs g z

-- no gap leaves the set as it is
pub cut_by_none : (gs : List Gap) (z : Zone) → true ≡ (length gs == 0) → (cut_all zone_calls gs z ⨾ λ b. Ok (zone_closed b)) ≡ Ok (zone_closed z)
cut_by_none [] z none = refl
cut_by_none (g ∷ gs) z none = absurd (let e = eqb-true (suc (length gs)) 0 (sym none) in omega arith)
