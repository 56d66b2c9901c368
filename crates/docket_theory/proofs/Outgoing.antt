-- Every step out of a cell has a number.
use Rattle.std.proofs.Common.{◌≡◌, ℕ, zero, suc, ◌<◌, false, List, [], ◌∷◌, ◌++◌, length, Some, refl, subst, inl, inr, add-one, arith}
use Rattle.std.proofs.lemmas.Bool.{eq-eqb, cases_order}
use Rattle.std.specs.List.{slice_get}
use Rattle.wire.specs.declared.cell.Cell.{Cell}
use Rattle.model.specs.declared.outgoing.Move.TheVariants.{Wait, Finish, Start}
use Rattle.model.specs.Cells.{cell_at, face}
use Rattle.model.specs.Outgoing.{start_at, starts_into, starts_below, finishes, moves_out}

-- x stands in the list, at a number
abbrev pub In : {X : Type 0} → X → List X → Type 0
In x xs = (i : ℕ) × (slice_get xs i ≡ Some x)

in_left : {X : Type 0} (x : X) (xs ys : List X) → In x xs → In x (xs ++ ys)
in_left x xs ys h = (h.0, at xs h.0 h.1)
  where
    at : (l : List _) (i : ℕ) → slice_get l i ≡ Some x → slice_get (l ++ ys) i ≡ Some x
    at [] i e = absurd (let z : ◌≡◌ {A = ℕ} 0 1 = cc in omega arith)
    at (y ∷ l) zero e = e
    at (y ∷ l) (suc i) e = at l i e

in_right : {X : Type 0} (x : X) (xs ys : List X) → In x ys → In x (xs ++ ys)
in_right x [] ys h = h
in_right x (y ∷ xs) ys h = let r = in_right x xs ys h in (suc r.0, r.1)

pub nth_lt : {X : Type 0} (xs : List X) (i : ℕ) (x : X) → slice_get xs i ≡ Some x → i < length xs
nth_lt [] i x e = absurd (let z : ◌≡◌ {A = ℕ} 0 1 = cc in omega arith)
nth_lt (y ∷ xs) zero x e = omega arith
nth_lt (y ∷ xs) (suc i) x e = let r = nth_lt xs i x e in omega arith

finish_in : (n k : ℕ) → k < n → In (Finish (suc k)) (finishes n)
unfolding finishes
finish_in zero k lt = absurd (omega arith)
finish_in (suc n) k lt =
    elim (cases_order k n) [ inl eq ↦ in_right _ (finishes n) _ (0, rw (eq, add-one)) | inr (inl less) ↦ in_left _ (finishes n) _ (finish_in n k less) | inr (inr more) ↦ absurd (omega arith) ]

into_in : (cells : List Cell) (c d n k : ℕ) → k < n → face cells false d k ≡ c → In (Start d (suc k)) (starts_into cells c d n)
unfolding starts_into
into_in cells c d zero k lt from = absurd (omega arith)
into_in cells c d (suc n) k lt from =
    elim (cases_order k n) [ inl eq ↦ in_right _ (starts_into cells c d n) _ (here eq) | inr (inl less) ↦ in_left _ (starts_into cells c d n) _ (into_in cells c d n k less from) | inr (inr more) ↦ absurd (omega arith) ]
  where
    here : k ≡ n → In (Start d (suc k)) (start_at cells c d n)
    here eq = rw (← eq, eq-eqb _ _ from) (0, rw add-one)

below_in : (cells : List Cell) (c n d k : ℕ) → d < n → k < (cell_at cells d).dim → face cells false d k ≡ c → In (Start d (suc k)) (starts_below cells c n)
unfolding starts_below
below_in cells c zero d k lt event from = absurd (omega arith)
below_in cells c (suc n) d k lt event from =
    elim (cases_order d n) [ inl eq ↦ in_right _ (starts_below cells c n) _ (subst (λ x. In (Start d (suc k)) (starts_into cells c x (cell_at cells x).dim)) eq (into_in cells c d (cell_at cells d).dim k event from)) | inr (inl less) ↦ in_left _ (starts_below cells c n) _ (below_in cells c n d k less event from) | inr (inr more) ↦ absurd (omega arith) ]

pub wait_number : (cells : List Cell) (c : ℕ) → In Wait (moves_out cells c)
unfolding moves_out
wait_number cells c = (0, refl)

pub finish_number : (cells : List Cell) (c k : ℕ) → k < (cell_at cells c).dim → In (Finish (suc k)) (moves_out cells c)
unfolding moves_out
finish_number cells c k event =
    let r = in_left _ (finishes (cell_at cells c).dim) (starts_below cells c (length cells)) (finish_in (cell_at cells c).dim k event) in (suc r.0, r.1)

pub start_number : (cells : List Cell) (c d k : ℕ) → d < length cells → k < (cell_at cells d).dim → face cells false d k ≡ c → In (Start d (suc k)) (moves_out cells c)
unfolding moves_out
start_number cells c d k lt event from =
    let r = in_right _ (finishes (cell_at cells c).dim) _ (below_in cells c (length cells) d k lt event from) in (suc r.0, r.1)
