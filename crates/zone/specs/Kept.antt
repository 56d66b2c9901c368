-- Bounds as limits, and small limits as bounds.
use Rattle.std.specs.Prelude.{◌≡◌, ℕ, ◌+◌, ◌*◌, ◌/◌, ◌%◌, ◌<◌, ◌≤◌, true, leb, List, map, length, get_or, pos, Ok, Err, nat_le, slice_index_or, refl}
use Rattle.std.proofs.Common.{sym, ◌∙◌, ap, arith}
use Rattle.std.proofs.lemmas.List.{get_or-map, length-map}
use Rattle.std.proofs.lemmas.Bool.{cond_both, cond-true, le-leb, leb-true}
use Rattle.clockset.specs.Laws.{bound_too_large}
use Rattle.weight.specs.declared.bound.Bound.{Bound}
use Rattle.weight.specs.Bounds.{limit_of, bound_of, limit_size, all_small}
use Rattle.weight.specs.Closing.{cell, Within}
use Rattle.weight.specs.Limits.{Limit, free}
use Rattle.weight.proofs.Codes.{limit_again}
use Rattle.weight.proofs.Sizes.{bounds_again, small_within}
use Rattle.zone_theory.proofs.Tables.{tabled_cell, tabled_from}
use Rattle.zone.specs.declared.Zone.{Zone}
use Rattle.zone.specs.Zones.{read_limit, limit_list, stored, kept_zone}

-- small limits are found again
pub read_again : (ls : List Limit) → length ls ≡ 49 → all_small ls ≡ true → limit_list (stored ls) ≡ ls
read_again ls long small =
    sym
    (tabled_from free (λ i j. read_limit (slice_index_or (map bound_of ls) (7 * i + j) (record { code = pos 0 }))) ls long
    (λ i j hi hj.
    let l = cell free ls i j in
    let size = small_within ls 4000000 (omega arith) small i j hi hj in
    let place : 7 * i + j < length ls = omega arith in
    let again = limit_again l (omega (arith, size)) in
    let here : read_limit (bound_of l) ≡ l = cond-true (nat_le (limit_size (limit_of (bound_of l))) 4000000) (limit_of (bound_of l)) free (ap (λ x. leb (limit_size x) 4000000) again ∙ le-leb (limit_size l) 4000000 size) ∙ again in
    let at = get_or-map bound_of ls (7 * i + j) free (record { code = pos 0 }) place in
    sym (ap read_limit at ∙ here)))

-- bounds are those of their limits
pub stored_one : (bs : List Bound) (ls : List Limit) → map limit_of bs ≡ ls → ◌≡◌ {A = Zone} (record { bounds = bs }) (stored ls)
stored_one bs ls is =
    let f : List Bound → Zone = λ cs. record { bounds = cs } in ap f (sym (bounds_again bs) ∙ ap (map bound_of) is)

pub kept_ok : (bs : List Bound) → all_small (map limit_of bs) ≡ true → Ok (record { bounds = bs }) ≡ kept_zone (map limit_of bs)
kept_ok bs small =
    ap (λ z. Ok z) (stored_one bs (map limit_of bs) refl)
    ∙ sym (cond-true (all_small (map limit_of bs)) (Ok (stored (map limit_of bs))) (Err bound_too_large) small)

-- no limit that is read is large
pub read_room : (z : Zone) → Within limit_size free 4194304 (limit_list z)
read_room z i j hi hj =
    let b = get_or z.bounds (7 * i + j) (record { code = pos 0 }) in
    let small = cond_both (nat_le (limit_size (limit_of b)) 4000000) (limit_of b) free (λ l. limit_size l ≤ 4194304) (λ e. omega (arith, leb-true (limit_size (limit_of b)) 4000000 e)) (λ e. omega arith) in
    rw (tabled_cell free (λ i j. read_limit (slice_index_or z.bounds (7 * i + j) (record { code = pos 0 }))) i j hi hj) small

-- the bounds of a zone as they are read, one by one
pub read_list : (z : Zone) → length z.bounds ≡ 49 → map read_limit z.bounds ≡ limit_list z
read_list z long =
    let none : Bound = record { code = pos 0 } in
    tabled_from free (λ i j. read_limit (slice_index_or z.bounds (7 * i + j) none)) (map read_limit z.bounds) (length-map z.bounds read_limit ∙ long)
    (λ i j hi hj. get_or-map read_limit z.bounds (7 * i + j) none free (omega (arith, long)))

-- a stored bound, by its place in the list
pub read_at : (z : Zone) (p : ℕ) → p < 49 → read_limit (slice_index_or z.bounds p (record { code = pos 0 })) ≡ slice_index_or (limit_list z) p free
read_at z p h =
    let whole : 7 * (p / 7) + p % 7 ≡ p = omega arith in
    let row : p / 7 < 7 = omega arith in
    let column : p % 7 < 7 = omega arith in
    let f : ℕ → Limit = λ q. read_limit (slice_index_or z.bounds q (record { code = pos 0 })) in
    sym (ap f whole) ∙ sym (tabled_cell free (λ i j. f (7 * i + j)) (p / 7) (p % 7) row column) ∙ ap (λ q. get_or (limit_list z) q free) whole
