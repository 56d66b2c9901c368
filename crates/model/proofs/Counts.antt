-- How many steps leave a cell.
use Rattle.std.proofs.Common.{◌≡◌, ℕ, zero, suc, ◌+◌, ◌*◌, ◌≤◌, Bool, true, false, cond, eqb, List, [], ◌∷◌, length, map, take, sum, count_by, refl, ap, subst, ◌∙◌, add-one, arith}
use Rattle.std.specs.List.{range_with_len}
use Rattle.std.proofs.lemmas.List.{length-append}
use Rattle.std.proofs.lemmas.List.FromFn.{map-range_with_len_more}
use Rattle.std.proofs.lemmas.List.Sums.{count_by_more_yes, count_by_more_no, sum_by_push}
use Rattle.wire.specs.declared.cell.Cell.{Cell}
use Rattle.wire.specs.declared.cell.Event.{Event}
use Rattle.model.specs.declared.outgoing.Move.TheVariants.{Finish, Start}
use Rattle.model.specs.Cells.{blank_event, cell_at, face}
use Rattle.model.specs.Outgoing.{start_at, starts_into, starts_below, finishes, moves_out}

pub start_most : (cells : List Cell) (c d k : ℕ) → length (start_at cells c d k) ≤ 1
start_most cells c d k = most (eqb (face cells false d k) c)
  where
    most : (b : Bool) → length (cond b (Start d (k + 1) ∷ []) []) ≤ 1
    most true = omega arith
    most false = omega arith

pub into_more : (cells : List Cell) (c d k : ℕ) → length (starts_into cells c d (k + 1)) ≡ length (starts_into cells c d k) + length (start_at cells c d k)
unfolding starts_into
into_more cells c d k =
    ap (λ (n : ℕ). length (starts_into cells c d n)) (add-one k) ∙ length-append (starts_into cells c d k) (start_at cells c d k)

pub below_more : (cells : List Cell) (c d : ℕ) → length (starts_below cells c (d + 1)) ≡ length (starts_below cells c d) + length (starts_into cells c d (cell_at cells d).dim)
unfolding starts_below
below_more cells c d =
    ap (λ (n : ℕ). length (starts_below cells c n)) (add-one d) ∙ length-append (starts_below cells c d) (starts_into cells c d (cell_at cells d).dim)

finishes_length : (n : ℕ) → length (finishes n) ≡ n
unfolding finishes
finishes_length zero = refl
finishes_length (suc n) = length-append (finishes n) (Finish (n + 1) ∷ []) ∙ ap (λ (k : ℕ). k + 1) (finishes_length n) ∙ add-one n

pub moves_length : (cells : List Cell) (c : ℕ) → length (moves_out cells c) ≡ 1 + (cell_at cells c).dim + length (starts_below cells c (length cells))
unfolding moves_out
moves_length cells c =
    let a = length-append (finishes (cell_at cells c).dim) (starts_below cells c (length cells)) in
    let f = finishes_length (cell_at cells c).dim in omega arith

-- the events of a cell that have cell c as their lower face, among its first n, are as many as the starts from there
pub into_counts : (cells : List Cell) (c d n : ℕ) → n ≤ length (cell_at cells d).events → count_by (λ (e : Event). eqb e.lower c) (take n (cell_at cells d).events) ≡ length (starts_into cells c d n)
unfolding starts_into
into_counts cells c d zero le = refl
into_counts cells c d (suc n) le =
    subst (λ (k : ℕ). count_by (λ (e : Event). eqb e.lower c) (take k (cell_at cells d).events) ≡ length (starts_into cells c d k)) (add-one n) (by (eqb (face cells false d n) c) refl (into_counts cells c d n (omega arith)))
  where
    by : (b : Bool) → eqb (face cells false d n) c ≡ b → count_by (λ (e : Event). eqb e.lower c) (take n (cell_at cells d).events) ≡ length (starts_into cells c d n) → count_by (λ (e : Event). eqb e.lower c) (take (n + 1) (cell_at cells d).events) ≡ length (starts_into cells c d (n + 1))
    by true is h =
        let p = count_by_more_yes (λ (e : Event). eqb e.lower c) (cell_at cells d).events n blank_event (omega arith) is in
        let q : length (start_at cells c d n) ≡ 1 = ap (λ (b : Bool). length (cond b (Start d (n + 1) ∷ []) [])) is in
        omega (arith, into_more cells c d n)
    by false is h =
        let p = count_by_more_no (λ (e : Event). eqb e.lower c) (cell_at cells d).events n blank_event (omega arith) is in
        let q : length (start_at cells c d n) ≡ 0 = ap (λ (b : Bool). length (cond b (Start d (n + 1) ∷ []) [])) is in
        omega (arith, into_more cells c d n)

into_most : (cells : List Cell) (c d n : ℕ) → length (starts_into cells c d n) ≤ n
unfolding starts_into
into_most cells c d zero = omega arith
into_most cells c d (suc n) =
    subst (λ (k : ℕ). length (starts_into cells c d k) ≤ k) (add-one n) (omega (arith, into_more cells c d n, start_most cells c d n, into_most cells c d n))

pub below_most : (cells : List Cell) (c n : ℕ) → length (starts_below cells c n) ≤ 4 * n
unfolding starts_below
below_most cells c zero = omega arith
below_most cells c (suc n) =
    subst (λ (k : ℕ). length (starts_below cells c k) ≤ 4 * k) (add-one n) (omega (arith, below_more cells c n, into_most cells c n (cell_at cells n).dim, (cell_at cells n).few, below_most cells c n))

-- the starts into the cells below n, added up
pub below_sum : (cells : List Cell) (c n : ℕ) → sum (map (λ d. length (starts_into cells c d (cell_at cells d).dim)) (range_with_len 0 n)) ≡ length (starts_below cells c n)
unfolding starts_below
below_sum cells c zero = refl
below_sum cells c (suc n) =
    let each : ℕ → ℕ = λ d. length (starts_into cells c d (cell_at cells d).dim) in
    let s = sum_by_push (λ (k : ℕ). k) (map each (range_with_len 0 n)) (each n) in
    subst (λ (k : ℕ). sum (map each (range_with_len 0 k)) ≡ length (starts_below cells c k)) (add-one n) (ap sum (map-range_with_len_more each 0 n n (omega arith)) ∙ s ∙ omega (arith, below_more cells c n, below_sum cells c n))
