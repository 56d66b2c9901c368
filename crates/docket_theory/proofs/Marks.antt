-- What the writes to the tables leave.
use Rattle.std.proofs.Common.{◌≡◌, ℕ, zero, suc, ◌+◌, ◌<◌, eqb, ◌⊎◌, List, [], ◌∷◌, map, length, get_or, set, Some, sym, refl, ap, ◌∙◌, subst, inl, inr, arith}
use Rattle.std.proofs.lemmas.List.{get_or-set_same, get_or-set_other, set_past, get_or_past, length-set, set-get_or}
use Rattle.std.proofs.lemmas.Bool.{cases_eq, cases_lt, cond_both, eq-eqb, ne_eqb}
use Rattle.std.specs.List.{slice_get}
use Rattle.docket_theory.specs.Docket.{opened, forget, duty_mark, marked}
use Rattle.docket_theory.specs.Worlds.{World, open_mark, mark_place}

pub nth_set_other : {X : Type 0} (xs : List X) (i j : ℕ) (x : X) → (j ≡ i → ⊥) → slice_get (set xs i x) j ≡ slice_get xs j
nth_set_other [] i j x ne = refl
nth_set_other (y ∷ xs) zero zero x ne = absurd (ne refl)
nth_set_other (y ∷ xs) zero (suc j) x ne = refl
nth_set_other (y ∷ xs) (suc i) zero x ne = refl
nth_set_other (y ∷ xs) (suc i) (suc j) x ne = nth_set_other xs i j x (λ e. ne (ap suc e))

pub nth_set_same : {X : Type 0} (xs : List X) (i : ℕ) (x : X) → i < length xs → slice_get (set xs i x) i ≡ Some x
nth_set_same [] i x lt = absurd (omega arith)
nth_set_same (y ∷ xs) zero x lt = refl
nth_set_same (y ∷ xs) (suc i) x lt = nth_set_same xs i x (omega arith)

-- a place after a write: as it was, or the place written with the value written
set_cases : (xs : List ℕ) (p q t d : ℕ) → (get_or (set xs p t) q d ≡ get_or xs q d) ⊎ ((q ≡ p) × (get_or (set xs p t) q d ≡ t))
set_cases xs p q t d =
    elim (cases_eq q p) [ inl is ↦ elim (cases_lt p (length xs)) [ inl lt ↦ inr (is, subst (λ x. get_or (set xs p t) x d ≡ t) (sym is) (get_or-set_same xs p t d lt)) | inr le ↦ inl (ap (λ (ys : List ℕ). get_or ys q d) (set_past xs p t le)) ] | inr ne ↦ inl (get_or-set_other xs p q t d ne) ]

set_open : (xs : List ℕ) (p : ℕ) → get_or (set xs p open_mark) p open_mark ≡ open_mark
set_open xs p =
    elim (cases_lt p (length xs)) [ inl lt ↦ get_or-set_same xs p open_mark open_mark lt | inr le ↦ ap (λ (ys : List ℕ). get_or ys p open_mark) (set_past xs p open_mark le) ∙ get_or_past xs p open_mark le ]

pub opened_length : (marks : List ℕ) (p n : ℕ) → length (opened marks p n) ≡ length marks
unfolding opened
opened_length marks p zero = refl
opened_length marks p (suc n) = length-set (opened marks p n) (p + n) open_mark ∙ opened_length marks p n

pub opened_cases : (marks : List ℕ) (p n q : ℕ) → (get_or (opened marks p n) q open_mark ≡ get_or marks q open_mark) ⊎ (get_or (opened marks p n) q open_mark ≡ open_mark)
unfolding opened
opened_cases marks p zero q = inl refl
opened_cases marks p (suc n) q =
    elim (set_cases (opened marks p n) (p + n) q open_mark open_mark) [ inl same ↦ elim (opened_cases marks p n q) [ inl old ↦ inl (same ∙ old) | inr none ↦ inr (same ∙ none) ] | inr new ↦ inr new.1 ]

pub opened_at : (marks : List ℕ) (p n j : ℕ) → j < n → get_or (opened marks p n) (p + j) open_mark ≡ open_mark
unfolding opened
opened_at marks p zero j lt = absurd (omega arith)
opened_at marks p (suc n) j lt =
    elim (cases_eq j n) [ inl is ↦ rw is (set_open (opened marks p n) (p + n)) | inr ne ↦ get_or-set_other (opened marks p n) (p + n) (p + j) open_mark open_mark (λ e. ne (omega arith)) ∙ opened_at marks p n j (omega arith) ]

-- a mark that is not open after an entry was struck did not name it, and is as it was
pub forget_cases : (n t : ℕ) → (forget n t ≡ open_mark) ⊎ ((forget n t ≡ t) × (t ≡ n → ⊥))
forget_cases n t = elim (cases_eq t n) [ inl is ↦ inl (rw (eq-eqb t n is)) | inr ne ↦ inr (rw (ne_eqb t n ne), ne) ]

pub forget_mark : (n : ℕ) (marks : List ℕ) (q : ℕ) → get_or (map (forget n) marks) q open_mark ≡ forget n (get_or marks q open_mark)
forget_mark n [] q = sym (elim (forget_cases n open_mark) [ inl is ↦ is | inr is ↦ is.0 ])
forget_mark n (x ∷ marks) zero = refl
forget_mark n (x ∷ marks) (suc q) = forget_mark n marks q

abbrev pub with_marks : {S : Type 0} → List ℕ → ℕ → World S → World S
with_marks marks t w = record { rows = w.rows; marks = marks; live = w.live; opening = t; trail = w.trail }

module _ {S : Type 0} (w : World S) where
  -- what holds whatever the marks are, as long as they are as many
  pub marked_any : (P : World S → Type 0) (i j t : ℕ) → ((marks : List ℕ) (o : ℕ) → length marks ≡ length w.marks → P (with_marks marks o w)) → P (marked i j t w)
  marked_any P i j t each =
      cond_both (eqb i open_mark) _ _ P (λ is. each w.marks t refl) (λ is. each (set w.marks (mark_place i j) t) w.opening (length-set w.marks (mark_place i j) t))

  -- two names of duties stand for one mark
  abbrev pub SamePlace : ℕ → ℕ → ℕ → ℕ → Type 0
  SamePlace i j x y =
      ((i ≡ open_mark) × (x ≡ open_mark)) ⊎ ((i ≡ open_mark → ⊥) × (x ≡ open_mark → ⊥) × (mark_place x y ≡ mark_place i j))

  pub same_mark : (i j x y : ℕ) → SamePlace i j x y → duty_mark w x y ≡ duty_mark w i j
  same_mark i j x y (inl p) = rw (p.0, p.1)
  same_mark i j x y (inr p) = rw (ne_eqb i open_mark p.0, ne_eqb x open_mark p.1, p.2)

  -- a mark after a write: as it was, or the mark written
  pub mark_cases : (i j t x y : ℕ) → (duty_mark (marked i j t w) x y ≡ duty_mark w x y) ⊎ (SamePlace i j x y × (duty_mark (marked i j t w) x y ≡ t))
  mark_cases i j t x y = by (cases_eq i open_mark) (cases_eq x open_mark)
    where
      by : (i ≡ open_mark) ⊎ (i ≡ open_mark → ⊥) → (x ≡ open_mark) ⊎ (x ≡ open_mark → ⊥) → (duty_mark (marked i j t w) x y ≡ duty_mark w x y) ⊎ (SamePlace i j x y × (duty_mark (marked i j t w) x y ≡ t))
      by (inl is) (inl too) = rw (eq-eqb i open_mark is, eq-eqb x open_mark too) (inr (inl (is, too), refl))
      by (inl is) (inr other) = rw (eq-eqb i open_mark is, ne_eqb x open_mark other) (inl refl)
      by (inr ne) (inl is) = rw (ne_eqb i open_mark ne, eq-eqb x open_mark is) (inl refl)
      by (inr ne) (inr other) =
          rw (ne_eqb i open_mark ne, ne_eqb x open_mark other) (elim (set_cases w.marks (mark_place i j) (mark_place x y) t open_mark) [ inl same ↦ inl same | inr new ↦ inr (inr (ne, other, new.0), new.1) ])

  pub marked_same : (i j : ℕ) → marked i j (duty_mark w i j) w ≡ w
  marked_same i j =
      elim (cases_eq i open_mark) [ inl is ↦ rw (eq-eqb i open_mark is) | inr ne ↦ rw (ne_eqb i open_mark ne) (ap (λ (marks : List ℕ). with_marks marks w.opening w) (set-get_or w.marks (mark_place i j) open_mark)) ]

  -- the mark written, where its place is in the table
  pub mark_written : (i j t : ℕ) → (i ≡ open_mark) ⊎ (mark_place i j < length w.marks) → duty_mark (marked i j t w) i j ≡ t
  mark_written i j t there =
      elim (cases_eq i open_mark) [ inl is ↦ rw (eq-eqb i open_mark is) | inr ne ↦ rw (ne_eqb i open_mark ne) (elim there [ inl is ↦ absurd (ne is) | inr lt ↦ get_or-set_same w.marks (mark_place i j) t open_mark lt ]) ]
