-- Rows, duties and their numbers.
use Rattle.std.proofs.Common.{◌≡◌, ℕ, ◌<◌, Bool, true, false, cond, eqb, ltb, List, Some, None, Option, refl, subst, arith}
use Rattle.std.proofs.lemmas.Bool.{ltb-true, lt-ltb, eqb-true, eqb-false, ne_eqb}
use Rattle.std.specs.List.{slice_get}
use Rattle.model.specs.declared.outgoing.Move.{Move}
use Rattle.model.specs.Outgoing.{moves_out}
use Rattle.model.specs.Plans.{Plan}
use Rattle.docket_theory.specs.declared.Duty.{Duty}
use Rattle.docket_theory.specs.declared.Duty.TheVariants.{Opening, Leave}
use Rattle.docket_theory.specs.declared.Entry.{Entry}
use Rattle.docket_theory.specs.Docket.{step_of, duty_of, duty_at}
use Rattle.docket_theory.specs.Worlds.{World, open_mark, row_in, row_at}

-- what is none is not some
pub none_some : {X : Type 0} {x : X} {o : Option X} → o ≡ None → o ≡ Some x → ⊥
none_some p q = let z : ◌≡◌ {A = ℕ} 0 1 = cc in omega arith

pub same_some : {X : Type 0} {x y : X} → Some x ≡ Some y → x ≡ y
same_some p = cc

-- a row that is there is live and in the table, and the other way round
pub row_parts : {S : Type 0} (rows : List (Entry S)) (n i : ℕ) (e : Entry S) → row_in rows n i ≡ Some e → (i < n) × (slice_get rows i ≡ Some e)
row_parts rows n i e h = by (ltb i n) refl h
  where
    by : (b : Bool) → ltb i n ≡ b → cond b (slice_get rows i) None ≡ Some e → (i < n) × (slice_get rows i ≡ Some e)
    by true is q = (ltb-true i n is, q)
    by false is q = absurd (none_some refl q)

pub row_from : {S : Type 0} (rows : List (Entry S)) (n i : ℕ) (e : Entry S) → i < n → slice_get rows i ≡ Some e → row_in rows n i ≡ Some e
row_from rows n i e lt h = rw (lt-ltb i n lt) h

-- a duty is the opening duty, by its one name, or a step out of the cell of an entry
pub data Names {S : Type 0} (m : Plan) (w : World S) (i j : ℕ) : Duty S → Type 0 where
  opens : i ≡ open_mark → j ≡ 0 → Names m w i j Opening
  leaves : (e : Entry S) (move : Move) → (i ≡ open_mark → ⊥) → row_at w i ≡ Some e → slice_get (moves_out m.cells e.cell) j ≡ Some move → Names m w i j (Leave e move)

pub names : {S : Type 0} (m : Plan) (w : World S) (i j : ℕ) (d : Duty S) → duty_at m w i j ≡ Some d → Names m w i j d
names m w i j d h = by (eqb i open_mark) refl h
  where
    step : (e : Entry _) (o : Option Move) → (i ≡ open_mark → ⊥) → row_at w i ≡ Some e → slice_get (moves_out m.cells e.cell) j ≡ o → step_of e o ≡ Some d → Names m w i j d
    step e None ne at is q = absurd (none_some refl q)
    step e (Some move) ne at is q = subst (Names m w i j) (same_some q) (leaves e move ne at is)

    row : (o : Option (Entry _)) → (i ≡ open_mark → ⊥) → row_at w i ≡ o → duty_of m o j ≡ Some d → Names m w i j d
    row None ne at q = absurd (none_some refl q)
    row (Some e) ne at q = step e (slice_get (moves_out m.cells e.cell) j) ne at refl q

    first : (b : Bool) → i ≡ open_mark → eqb j 0 ≡ b → cond b (Some Opening) None ≡ Some d → Names m w i j d
    first true eq is q = subst (Names m w i j) (same_some q) (opens eq (eqb-true j 0 is))
    first false eq is q = absurd (none_some refl q)

    by : (b : Bool) → eqb i open_mark ≡ b → cond b (cond (eqb j 0) (Some Opening) None) (duty_of m (row_at w i) j) ≡ Some d → Names m w i j d
    by true is q = first (eqb j 0) (eqb-true i open_mark is) refl q
    by false is q = row (row_at w i) (eqb-false i open_mark is) refl q

pub named : {S : Type 0} (m : Plan) (w : World S) (i j : ℕ) (d : Duty S) → Names m w i j d → duty_at m w i j ≡ Some d
named m w i j d (opens is zero_is) = rw (is, zero_is)
named m w i j d (leaves e move ne at step) = rw (ne_eqb i open_mark ne, at, step)
