-- Readings in a row: none, one more, and a refused one.
use Rattle.std.proofs.Common.{◌≡◌, ℕ, zero, suc, ◌+◌, ◌<◌, List, map, Vec, Global, vec_items, IsErrAnd, Ok, Err, Result, sym, refl, ap, ◌∙◌, subst, inl, inr, add-one, arith}
use Rattle.std.proofs.lemmas.Bool.{cases_order}
use Rattle.std.proofs.lemmas.List.{map-id}
use Rattle.slip.specs.declared.Slip.{Slip}
use Rattle.wire_fields.specs.declared.fault.Fault.{Fault}
use Rattle.wire_fields.specs.declared.fault.Fault.TheVariants.{Refused, Memory}
use Rattle.wire_fields.specs.declared.reader.Reader.{Reader}
use Rattle.wire_fields.specs.Reading.{Parsed, many}
use Rattle.wire_fields.specs.Readers.{Takes, Gathers}

-- from the old reader to the new one k things were read, and they made xs
pub record HasRead {A C : Type 0} (put : C → ℕ → A → C) (d : ℕ → List ℕ → ℕ → Parsed A) (es : C) (k : ℕ) (xs : C) (old new : Reader) : Type 0 where
  pub reads : many put d es k old.bytes.now old.at ≡ Ok (xs, new.at)
  pub same : new.bytes ≡ old.bytes

module _ {A C : Type 0} (put : C → ℕ → A → C) (d : ℕ → List ℕ → ℕ → Parsed A) (es : C) where
  pub has_read_none : (old : Reader) → HasRead put d es 0 es old old
  unfolding many
  has_read_none old = record { reads = refl; same = refl }

  pub has_read_more : (k : ℕ) (xs : C) (old mid new : Reader) (x : A) → HasRead put d es k xs old mid → Takes (d k) mid new (Ok x)
      → HasRead put d es (k + 1) (put xs k x) old new
  unfolding many
  has_read_more k xs old mid new x i h =
      record { reads = rw (add-one, i.reads) (rw (ap (λ b. b.now) (sym i.same)) (rw h.reads refl)); same = h.same ∙ i.same }

  -- where reading k is refused, so are all n
  pub many_stop : (s t : List ℕ) (p k n q : ℕ) (xs : C) (e : Slip) → k < n → t ≡ s → many put d es k s p ≡ Ok (xs, q) → d k t q ≡ Err e
      → many put d es n s p ≡ Err e
  unfolding many
  many_stop s t p k zero q xs e lt same i h = absurd (omega arith)
  many_stop s t p k (suc n) q xs e lt same i h =
      elim (cases_order k n) [
        | inl g ↦ subst (λ (m : ℕ). many put d es (suc m) s p ≡ Err e) g (rw i (rw (sym same) (rw h refl)))
        | inr (inl g) ↦ rw (many_stop s t p k n q xs e g same i h) refl
        | inr (inr g) ↦ absurd (omega arith)
      ]

  pub has_read_stop : (k n : ℕ) (xs : C) (old mid new : Reader) (e : Slip) (r : Result C Slip) → k < n → HasRead put d es k xs old mid
      → Takes (d k) mid new (Err e) → IsErrAnd r (λ y. y ≡ e) → Takes (many put d es n) old new r
  has_read_stop k n xs old mid new e (Ok x) lt i h f = absurd f
  has_read_stop k n xs old mid new e (Err y) lt i h f =
      record {
        reads = many_stop _ _ _ _ _ _ _ _ lt (ap (λ b. b.now) i.same) i.reads h.reads ∙ ap Err (sym f);
        same = h.same ∙ i.same;
      }

  -- and so where it is refused, or memory is wanting, in a call that allocates
  pub has_read_fault : {T U : Type 0} (one : T → A) (all : U → C) (k n : ℕ) (xs : C) (old mid new : Reader) (e : Fault) (r : Result U Fault) → k < n
      → HasRead put d es k xs old mid → Gathers one (d k) mid new (Err e) → IsErrAnd r (λ y. y ≡ e) → Gathers all (many put d es n) old new r
  has_read_fault one all k n xs old mid new e (Ok x) lt i h f = absurd f
  has_read_fault one all k n xs old mid new (Refused e) (Err (Refused y)) lt i h f =
      record {
        reads = many_stop _ _ _ _ _ _ _ _ lt (ap (λ b. b.now) i.same) i.reads h.reads ∙ ap Err (cc);
        same = h.same ∙ i.same;
      }
  has_read_fault one all k n xs old mid new e (Err Memory) lt i h f = record { reads = tt; same = h.same ∙ i.same }
  has_read_fault one all k n xs old mid new Memory (Err (Refused y)) lt i h f = cc

-- what is seen as it is
pub seen_as_it_is : {T : Type 0} (d : List ℕ → ℕ → Parsed (List T)) (old new : Reader) (r : Result (Vec T Global) Fault)
    → Gathers (λ v. map (λ x. x) (vec_items v)) d old new r → Gathers (λ v. vec_items v) d old new r
seen_as_it_is d old new (Ok v) h = record { reads = h.reads ∙ rw map-id refl; same = h.same }
seen_as_it_is d old new (Err (Refused e)) h = record { reads = h.reads; same = h.same }
seen_as_it_is d old new (Err Memory) h = record { reads = h.reads; same = h.same }
