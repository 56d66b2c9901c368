-- The rows that a table has, and those that it does not have.
use Rattle.std.proofs.Common.{◌≡◌, ℕ, ◌<◌, ◌≤◌, Bool, true, false, cond, ltb, ◌⊎◌, List, length, get_or, Some, None, Option, sym, refl, inl, inr, arith}
use Rattle.std.proofs.lemmas.Option.{slice_get_past, slice_get_read}
use Rattle.std.proofs.lemmas.Bool.{lt-ltb, le-ltb, ltb-true}
use Rattle.std.specs.List.{slice_get}
use Rattle.docket_theory.specs.declared.Entry.{Entry}
use Rattle.docket_theory.specs.Worlds.{row_in}

module _ {S : Type 0} (rows : List (Entry S)) (n i : ℕ) where
  pub row_here : (e : Entry S) → i < n → i < length rows → e ≡ get_or rows i e → Some e ≡ row_in rows n i
  row_here e live here is = rw (lt-ltb i n live) (sym (slice_get_read rows (length rows) i e refl here is))

  pub row_past : ((i < n) × (length rows ≤ i)) ⊎ (n ≤ i) → None ≡ row_in rows n i
  row_past (inl h) = rw (lt-ltb i n h.0) (sym (slice_get_past rows i h.1))
  row_past (inr le) = rw (le-ltb i n le)

  pub row_live : (e : Entry S) → Some e ≡ row_in rows n i → i < n
  row_live e h = ltb-true i n (tested (ltb i n) (slice_get rows i) h)
    where
      tested : (b : Bool) (o : Option (Entry S)) → Some e ≡ cond b o None → b ≡ true
      tested true o is = refl
      tested false o is = let z : ◌≡◌ {A = ℕ} 0 1 = cc in absurd (omega arith)
