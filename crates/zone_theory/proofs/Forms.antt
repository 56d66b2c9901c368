-- The calls on lists of weights are exact, for any weights that a map takes into limits.
use Rattle.std.proofs.Common.{◌≡◌, ℕ, ◌+◌, ◌*◌, ◌/◌, ◌%◌, ◌<◌, ◌≤◌, Bool, true, false, cond, not, ◌&&◌, ◌||◌, eqb, ◌⊎◌, ◌↔◌, List, length, pos, Some, None, Option, sym, refl, ap, ◌∙◌, inl, inr, mul-le-mul, arith}
use Rattle.std.proofs.lemmas.Bool.{both_ways}
use Rattle.clocks.specs.Readings.{count_at}
use Rattle.weight.specs.Closing.{cell, lesser, empty_form}
use Rattle.weight.specs.Limits.{Limit, under, up_to, free, limit_leb, limit_plus}
use Rattle.weight.specs.Weights.{Laws, Beneath}
use Rattle.weight.specs.Signs.{sign_leb, sign_plus, sign_limit}
use Rattle.weight.specs.declared.order_sign.OrderSign.TheVariants.{Below, AtMost, Free}
use Rattle.weight.proofs.Images.{image_closed_form, image_falling}
use Rattle.weight.proofs.Matrix.{closing_closed, closing_falling, closing_length, empty_cell}
use Rattle.zone_theory.specs.Exact.{Closes, Falls, Reset, Delay}
use Rattle.zone_theory.specs.Matrices.{tighter, tightened, cut_limits, home, reset_limits, delay_limits, empty_limits}
use Rattle.zone_theory.specs.Readings.{Obeys, Holds, Fine, Vacant, Inside, Alike}
use Rattle.zone_theory.specs.Sets.{tabled, view, tight, canonical_form, or_empty, cut_weights, cut_form, reset_of, reset_form, delay_of, delay_form, beneath_all, within_of, within_form, is_none, empty_test}
use Rattle.zone_theory.proofs.Exact.{closes_forth, closes_back, closes_readable, closes_within, closes_reset, closes_delay, falls_vacant, alike_closes, alike_falls, alike_cut, gap_exact}
use Rattle.zone_theory.proofs.Images.{same_closed_form, same_falling}
use Rattle.zone_theory.proofs.Kept.{same_meets, same_fine, closing_fine}
use Rattle.weight.specs.Limited.{limit_laws, sign_leb_is, sign_plus_is}
use Rattle.zone_theory.proofs.LimitLaws.{sign_laws}
use Rattle.zone_theory.proofs.Moves.{empty_vacant}
use Rattle.zone_theory.proofs.Resets.{reset_fine}
use Rattle.zone_theory.proofs.Delays.{delay_fine}
use Rattle.zone_theory.proofs.Tables.{tabled_cell, tabled_length, cells_same, every_at, every_from, empty_length}

-- a map of weights into limits that keeps order, sum and the three special weights
pub record Embeds {V : Type 0} (leb : V → V → Bool) (plus : V → V → V) (neutral unbounded hopeless : V) (f : V → Limit) : Type 0 where
  pub laws : Laws leb plus neutral unbounded hopeless
  pub f_leb : (x y : V) → limit_leb (f x) (f y) ≡ leb x y
  pub f_plus : (x y : V) → limit_plus (f x) (f y) ≡ f (plus x y)
  pub f_neutral : f neutral ≡ up_to (pos 0)
  pub f_unbounded : f unbounded ≡ free
  pub f_hopeless : f hopeless ≡ under (pos 0)

pub map_cond : {V W : Type 0} (f : V → W) (b : Bool) (x y : V) → f (cond b x y) ≡ cond b (f x) (f y)
map_cond f true x y = refl
map_cond f false x y = refl

module _ {V : Type 0} {leb : V → V → Bool} {plus : V → V → V} {neutral unbounded hopeless : V} {f : V → Limit} (e : Embeds leb plus neutral unbounded hopeless f) where
  pub f_lesser : (x y : V) → f (lesser leb x y) ≡ tighter (f x) (f y)
  f_lesser x y = map_cond f (leb x y) x y ∙ ap (λ b. cond b (f x) (f y)) (sym (e.f_leb x y))

  pub f_one : (x y : V) → f x ≡ f y → x ≡ y
  f_one x y same =
      e.laws.anti x y (sym (e.f_leb x y) ∙ ap (limit_leb (f x)) (sym same) ∙ limit_laws.self (f x))
      (sym (e.f_leb y x) ∙ ap (limit_leb (f y)) same ∙ limit_laws.self (f y))

  pub tight_view : (d : ℕ → ℕ → V) (i j : ℕ) → f (tight leb plus neutral unbounded hopeless d i j) ≡ tightened (λ i j. f (d i j)) i j
  tight_view d i j =
      map_cond f (eqb i 0 || eqb i j) (lesser leb (d i j) neutral) (d i j)
      ∙ ap (λ x. cond (eqb i 0 || eqb i j) x (f (d i j))) (f_lesser (d i j) neutral ∙ ap (tighter (f (d i j))) e.f_neutral)

  cut_view : (d : ℕ → ℕ → V) (i j : ℕ) (b : V) (p q : ℕ) → f (cut_weights leb plus neutral unbounded hopeless d i j b p q) ≡ cut_limits (λ i j. f (d i j)) i j (f b) p q
  cut_view d i j b p q =
      map_cond f (eqb p i && eqb q j) (lesser leb (d p q) b) (d p q)
      ∙ ap (λ x. cond (eqb p i && eqb q j) x (f (d p q))) (f_lesser (d p q) b)

  wide_view : (xs : List V) (i j : ℕ) → i < 7 → j < 7 → view f unbounded (tabled (tight leb plus neutral unbounded hopeless (cell unbounded xs))) i j ≡ tightened (view f unbounded xs) i j
  wide_view xs i j hi hj =
      ap f (tabled_cell unbounded (tight leb plus neutral unbounded hopeless (cell unbounded xs)) i j hi hj) ∙ tight_view (cell unbounded xs) i j

  pub form_closes : (xs ys : List V) → canonical_form leb plus neutral unbounded hopeless xs ≡ Some ys → Closes (view f unbounded xs) (view f unbounded ys)
  form_closes xs ys some =
      let wide = tabled (tight leb plus neutral unbounded hopeless (cell unbounded xs)) in
      same_closed_form limit_laws (view f unbounded wide) (tightened (view f unbounded xs)) (wide_view xs) (view f unbounded ys)
      (image_closed_form limit_laws f e.f_leb e.f_plus e.f_neutral (cell unbounded wide) (cell unbounded ys) (closing_closed e.laws unbounded wide ys some))

  pub form_falls : (xs : List V) → canonical_form leb plus neutral unbounded hopeless xs ≡ None → Falls (view f unbounded xs)
  form_falls xs none =
      let wide = tabled (tight leb plus neutral unbounded hopeless (cell unbounded xs)) in
      same_falling limit_laws (view f unbounded wide) (tightened (view f unbounded xs)) (wide_view xs)
      (image_falling limit_laws f e.f_leb e.f_plus e.f_neutral (cell unbounded wide) (closing_falling e.laws unbounded wide none))

  pub form_length : (xs ys : List V) → canonical_form leb plus neutral unbounded hopeless xs ≡ Some ys → length ys ≡ 49
  form_length xs ys some = closing_length e.laws unbounded (tabled (tight leb plus neutral unbounded hopeless (cell unbounded xs))) ys some

  pub empty_none : Vacant (view f unbounded (empty_form hopeless))
  empty_none s v p h =
      empty_vacant s v p
      (same_meets (view f unbounded (empty_form hopeless)) empty_limits (λ i j hi hj. ap f (empty_cell unbounded hopeless i j hi hj) ∙ e.f_hopeless) s (count_at v) h)

  form_alike_by : (xs : List V) (o : Option (List V)) → canonical_form leb plus neutral unbounded hopeless xs ≡ o → (s : ℕ) (v : List ℕ) → 1 ≤ s
      → Holds (view f unbounded xs) s v ↔ Holds (view f unbounded (or_empty leb plus neutral unbounded hopeless o)) s v
  form_alike_by xs (Some ys) is s v p =
      let form = form_closes xs ys is in
      (closes_forth (view f unbounded xs) (view f unbounded ys) form s v, closes_back (view f unbounded xs) (view f unbounded ys) form s v p)
  form_alike_by xs None is s v p = (λ h. absurd (falls_vacant (view f unbounded xs) (form_falls xs is) s v p h), λ h. absurd (empty_none s v p h))

  -- the closed form, or the empty one, has the same readings
  pub form_alike : (xs : List V) (s : ℕ) (v : List ℕ) → 1 ≤ s
      → Holds (view f unbounded xs) s v ↔ Holds (view f unbounded (or_empty leb plus neutral unbounded hopeless (canonical_form leb plus neutral unbounded hopeless xs))) s v
  form_alike xs = form_alike_by xs (canonical_form leb plus neutral unbounded hopeless xs) refl

  form_shape_by : (xs : List V) (o : Option (List V)) → canonical_form leb plus neutral unbounded hopeless xs ≡ o
      → Fine (view f unbounded (or_empty leb plus neutral unbounded hopeless o)) ⊎ (or_empty leb plus neutral unbounded hopeless o ≡ empty_form hopeless)
  form_shape_by xs (Some ys) is = inl (closing_fine (view f unbounded xs) (view f unbounded ys) (form_closes xs ys is))
  form_shape_by xs None is = inr refl

  pub cut_cells : (xs : List V) (i j : ℕ) (b : V) (p q : ℕ) → p < 7 → q < 7
      → view f unbounded (tabled (cut_weights leb plus neutral unbounded hopeless (cell unbounded xs) i j b)) p q ≡ cut_limits (view f unbounded xs) i j (f b) p q
  cut_cells xs i j b p q hp hq =
      ap f (tabled_cell unbounded (cut_weights leb plus neutral unbounded hopeless (cell unbounded xs) i j b) p q hp hq) ∙ cut_view (cell unbounded xs) i j b p q

  pub cut_exact : (xs : List V) (i j : ℕ) (b : V) → i < 7 → j < 7 → (s : ℕ) (v : List ℕ) → 1 ≤ s
      → Holds (view f unbounded (cut_form leb plus neutral unbounded hopeless xs i j b)) s v ↔ (Holds (view f unbounded xs) s v × Obeys (f b) s (count_at v i) (count_at v j))
  cut_exact xs i j b hi hj s v p =
      let new = tabled (cut_weights leb plus neutral unbounded hopeless (cell unbounded xs) i j b) in
      let d = cut_limits (view f unbounded xs) i j (f b) in
      let a = form_alike new s v p in
      let g = gap_exact (view f unbounded xs) i j (f b) hi hj s v p in (
        λ h. g.0 (same_meets (view f unbounded new) d (cut_cells xs i j b) s (count_at v) (a.1 h)),
        λ h. a.0 (same_meets d (view f unbounded new) (λ x y hx hy. sym (cut_cells xs i j b x y hx hy)) s (count_at v) (g.1 h)),
      )

  pub cut_shape : (xs : List V) (i j : ℕ) (b : V)
      → Fine (view f unbounded (cut_form leb plus neutral unbounded hopeless xs i j b)) ⊎ (cut_form leb plus neutral unbounded hopeless xs i j b ≡ empty_form hopeless)
  cut_shape xs i j b = form_shape_by (tabled (cut_weights leb plus neutral unbounded hopeless (cell unbounded xs) i j b)) _ refl

  pub reset_cells : (set : ℕ → Bool) (xs : List V) (i j : ℕ) → i < 7 → j < 7
      → view f unbounded (tabled (λ i j. cell unbounded xs (home set i) (home set j))) i j ≡ reset_limits set (view f unbounded xs) i j
  reset_cells set xs i j hi hj = ap f (tabled_cell unbounded (λ i j. cell unbounded xs (home set i) (home set j)) i j hi hj)

  reset_exact_by : (set : ℕ → Bool) (xs : List V) (o : Option (List V)) → canonical_form leb plus neutral unbounded hopeless xs ≡ o → (s : ℕ) (v : List ℕ) → 1 ≤ s → length v ≡ 6
      → Holds (view f unbounded (reset_of leb plus neutral unbounded hopeless set o)) s v ↔ Reset set (view f unbounded xs) s v
  reset_exact_by set xs (Some ys) is s v p six =
      let d = reset_limits set (view f unbounded ys) in
      let new = view f unbounded (tabled (λ i j. cell unbounded ys (home set i) (home set j))) in
      let r = closes_reset (view f unbounded xs) (view f unbounded ys) (form_closes xs ys is) set s v p six in (
        λ h. r.0 (same_meets new d (reset_cells set ys) s (count_at v) h),
        λ h. same_meets d new (λ i j hi hj. sym (reset_cells set ys i j hi hj)) s (count_at v) (r.1 h),
      )
  reset_exact_by set xs None is s v p six =
      (λ h. absurd (empty_none s v p h), λ r. absurd (falls_vacant (view f unbounded xs) (form_falls xs is) (r.0 * s) r.1 (mul-le-mul r.2 p) r.4))

  pub reset_exact : (set : ℕ → Bool) (xs : List V) (s : ℕ) (v : List ℕ) → 1 ≤ s → length v ≡ 6
      → Holds (view f unbounded (reset_form leb plus neutral unbounded hopeless set xs)) s v ↔ Reset set (view f unbounded xs) s v
  reset_exact set xs = reset_exact_by set xs (canonical_form leb plus neutral unbounded hopeless xs) refl

  reset_shape_by : (set : ℕ → Bool) (xs : List V) (o : Option (List V)) → canonical_form leb plus neutral unbounded hopeless xs ≡ o
      → Fine (view f unbounded (reset_of leb plus neutral unbounded hopeless set o)) ⊎ (reset_of leb plus neutral unbounded hopeless set o ≡ empty_form hopeless)
  reset_shape_by set xs (Some ys) is =
      inl
      (same_fine (reset_limits set (view f unbounded ys)) (view f unbounded (tabled (λ i j. cell unbounded ys (home set i) (home set j))))
      (λ i j hi hj. sym (reset_cells set ys i j hi hj))
      (reset_fine set (view f unbounded ys) (closing_fine (view f unbounded xs) (view f unbounded ys) (form_closes xs ys is))))
  reset_shape_by set xs None is = inr refl

  pub reset_shape : (set : ℕ → Bool) (xs : List V)
      → Fine (view f unbounded (reset_form leb plus neutral unbounded hopeless set xs)) ⊎ (reset_form leb plus neutral unbounded hopeless set xs ≡ empty_form hopeless)
  reset_shape set xs = reset_shape_by set xs (canonical_form leb plus neutral unbounded hopeless xs) refl

  pub delay_cells : (xs : List V) (i j : ℕ) → i < 7 → j < 7
      → view f unbounded (tabled (λ i j. cond (not (eqb i 0) && eqb j 0) unbounded (cell unbounded xs i j))) i j ≡ delay_limits (view f unbounded xs) i j
  delay_cells xs i j hi hj =
      ap f (tabled_cell unbounded (λ i j. cond (not (eqb i 0) && eqb j 0) unbounded (cell unbounded xs i j)) i j hi hj)
      ∙ map_cond f (not (eqb i 0) && eqb j 0) unbounded (cell unbounded xs i j)
      ∙ ap (λ x. cond (not (eqb i 0) && eqb j 0) x (f (cell unbounded xs i j))) e.f_unbounded

  delay_exact_by : (xs : List V) (o : Option (List V)) → canonical_form leb plus neutral unbounded hopeless xs ≡ o → (s : ℕ) (v : List ℕ) → 1 ≤ s → length v ≡ 6
      → Holds (view f unbounded (delay_of leb plus neutral unbounded hopeless o)) s v ↔ Delay (view f unbounded xs) s v
  delay_exact_by xs (Some ys) is s v p six =
      let d = delay_limits (view f unbounded ys) in
      let new = view f unbounded (tabled (λ i j. cond (not (eqb i 0) && eqb j 0) unbounded (cell unbounded ys i j))) in
      let r = closes_delay (view f unbounded xs) (view f unbounded ys) (form_closes xs ys is) s v p six in (
        λ h. r.0 (same_meets new d (delay_cells ys) s (count_at v) h),
        λ h. same_meets d new (λ i j hi hj. sym (delay_cells ys i j hi hj)) s (count_at v) (r.1 h),
      )
  delay_exact_by xs None is s v p six =
      (λ h. absurd (empty_none s v p h), λ r. absurd (falls_vacant (view f unbounded xs) (form_falls xs is) (r.0 * s) r.2 (mul-le-mul r.3 p) r.5))

  pub delay_exact : (xs : List V) (s : ℕ) (v : List ℕ) → 1 ≤ s → length v ≡ 6
      → Holds (view f unbounded (delay_form leb plus neutral unbounded hopeless xs)) s v ↔ Delay (view f unbounded xs) s v
  delay_exact xs = delay_exact_by xs (canonical_form leb plus neutral unbounded hopeless xs) refl

  delay_shape_by : (xs : List V) (o : Option (List V)) → canonical_form leb plus neutral unbounded hopeless xs ≡ o
      → Fine (view f unbounded (delay_of leb plus neutral unbounded hopeless o)) ⊎ (delay_of leb plus neutral unbounded hopeless o ≡ empty_form hopeless)
  delay_shape_by xs (Some ys) is =
      inl
      (same_fine (delay_limits (view f unbounded ys)) (view f unbounded (tabled (λ i j. cond (not (eqb i 0) && eqb j 0) unbounded (cell unbounded ys i j))))
      (λ i j hi hj. sym (delay_cells ys i j hi hj))
      (delay_fine (view f unbounded ys) (closing_fine (view f unbounded xs) (view f unbounded ys) (form_closes xs ys is))))
  delay_shape_by xs None is = inr refl

  pub delay_shape : (xs : List V)
      → Fine (view f unbounded (delay_form leb plus neutral unbounded hopeless xs)) ⊎ (delay_form leb plus neutral unbounded hopeless xs ≡ empty_form hopeless)
  delay_shape xs = delay_shape_by xs (canonical_form leb plus neutral unbounded hopeless xs) refl

  pub beneath_all_is : (xs ys : List V) → (beneath_all leb plus neutral unbounded hopeless xs ys ≡ true) ↔ Beneath limit_leb (view f unbounded xs) (view f unbounded ys)
  unfolding beneath_all
  beneath_all_is xs ys =
      let test : ℕ → Bool = λ p. leb (cell unbounded xs (p / 7) (p % 7)) (cell unbounded ys (p / 7) (p % 7)) in (
        λ all i j hi hj.
            let row : (7 * i + j) / 7 ≡ i = omega arith in
            let column : (7 * i + j) % 7 ≡ j = omega arith in
            let at : test (7 * i + j) ≡ true = every_at test 49 (7 * i + j) (omega arith) all in
            e.f_leb (cell unbounded xs i j) (cell unbounded ys i j) ∙ (rw (row, column) at at),
        λ b.
            every_from test 49
            (λ p h. sym (e.f_leb (cell unbounded xs (p / 7) (p % 7)) (cell unbounded ys (p / 7) (p % 7))) ∙ b (p / 7) (p % 7) (omega arith) (omega arith)),
      )

  within_exact_by : (xs ys : List V) (o : Option (List V)) → canonical_form leb plus neutral unbounded hopeless xs ≡ o
      → (within_of leb plus neutral unbounded hopeless o ys ≡ true) ↔ Inside (view f unbounded xs) (view f unbounded ys)
  within_exact_by xs ys (Some zs) is =
      let b = beneath_all_is zs ys in
      let w = closes_within (view f unbounded xs) (view f unbounded zs) (form_closes xs zs is) (view f unbounded ys) in
      (λ t. w.0 (b.0 t), λ all. b.1 (w.1 all))
  within_exact_by xs ys None is = (λ t s v p six h. absurd (falls_vacant (view f unbounded xs) (form_falls xs is) s v p h), λ all. refl)

  pub within_exact : (xs ys : List V) → (within_form leb plus neutral unbounded hopeless xs ys ≡ true) ↔ Inside (view f unbounded xs) (view f unbounded ys)
  within_exact xs ys = within_exact_by xs ys (canonical_form leb plus neutral unbounded hopeless xs) refl

  empty_exact_by : (xs : List V) (o : Option (List V)) → canonical_form leb plus neutral unbounded hopeless xs ≡ o
      → (is_none leb plus neutral unbounded hopeless o ≡ true) ↔ ((s : ℕ) (v : List ℕ) → 1 ≤ s → length v ≡ 6 → Holds (view f unbounded xs) s v → ⊥)
  empty_exact_by xs (Some ys) is =
      (λ t. absurd (both_ways false refl t), λ no. let r = closes_readable (view f unbounded xs) (view f unbounded ys) (form_closes xs ys is) in absurd (no r.0 r.1 r.2 r.3 r.4))
  empty_exact_by xs None is = (λ t s v p six h. falls_vacant (view f unbounded xs) (form_falls xs is) s v p h, λ no. refl)

  pub empty_exact : (xs : List V)
      → (empty_test leb plus neutral unbounded hopeless xs ≡ true) ↔ ((s : ℕ) (v : List ℕ) → 1 ≤ s → length v ≡ 6 → Holds (view f unbounded xs) s v → ⊥)
  empty_exact xs = empty_exact_by xs (canonical_form leb plus neutral unbounded hopeless xs) refl

  form_one_by : (xs ys : List V) (o p : Option (List V)) → canonical_form leb plus neutral unbounded hopeless xs ≡ o → canonical_form leb plus neutral unbounded hopeless ys ≡ p
      → Alike (view f unbounded xs) (view f unbounded ys) → o ≡ p
  form_one_by xs ys (Some a) (Some b) is js same =
      ap Some
      (cells_same unbounded a b (form_length xs a is) (form_length ys b js)
      (λ i j hi hj. f_one (cell unbounded a i j) (cell unbounded b i j)
      (alike_closes (view f unbounded xs) (view f unbounded ys) (view f unbounded a) (view f unbounded b) (form_closes xs a is) (form_closes ys b js) same i j hi hj)))
  form_one_by xs ys (Some a) None is js same =
      absurd (alike_falls (view f unbounded ys) (view f unbounded xs) (view f unbounded a) (form_falls ys js) (form_closes xs a is) (λ s v p six. ((same s v p six).1, (same s v p six).0)))
  form_one_by xs ys None (Some b) is js same =
      absurd (alike_falls (view f unbounded xs) (view f unbounded ys) (view f unbounded b) (form_falls xs is) (form_closes ys b js) same)
  form_one_by xs ys None None is js same = refl

  -- sets with the same readings have the same closed form
  pub form_one : (xs ys : List V) → Alike (view f unbounded xs) (view f unbounded ys)
      → canonical_form leb plus neutral unbounded hopeless xs ≡ canonical_form leb plus neutral unbounded hopeless ys
  form_one xs ys = form_one_by xs ys (canonical_form leb plus neutral unbounded hopeless xs) (canonical_form leb plus neutral unbounded hopeless ys) refl refl

  pub one_alike : (xs ys : List V) → canonical_form leb plus neutral unbounded hopeless xs ≡ canonical_form leb plus neutral unbounded hopeless ys
      → Alike (view f unbounded xs) (view f unbounded ys)
  one_alike xs ys one s v p six =
      let a = form_alike_by xs (canonical_form leb plus neutral unbounded hopeless ys) one s v p in
      let b = form_alike ys s v p in
      (λ h. b.1 (a.0 h), λ h. a.1 (b.0 h))

  -- and are cut alike
  pub cut_one : (xs ys : List V) (i j : ℕ) (b : V) → i < 7 → j < 7 → Alike (view f unbounded xs) (view f unbounded ys)
      → cut_form leb plus neutral unbounded hopeless xs i j b ≡ cut_form leb plus neutral unbounded hopeless ys i j b
  cut_one xs ys i j b hi hj same =
      let new : List V → List V = λ zs. tabled (cut_weights leb plus neutral unbounded hopeless (cell unbounded zs) i j b) in
      let both = alike_cut (view f unbounded xs) (view f unbounded ys) i j (f b) hi hj same in
      let forth : (zs : List V) (s : ℕ) (v : List ℕ) → Holds (view f unbounded (new zs)) s v → Holds (cut_limits (view f unbounded zs) i j (f b)) s v
      = λ zs s v h. same_meets (view f unbounded (new zs)) (cut_limits (view f unbounded zs) i j (f b)) (cut_cells zs i j b) s (count_at v) h in
      let back : (zs : List V) (s : ℕ) (v : List ℕ) → Holds (cut_limits (view f unbounded zs) i j (f b)) s v → Holds (view f unbounded (new zs)) s v
      = λ zs s v h. same_meets (cut_limits (view f unbounded zs) i j (f b)) (view f unbounded (new zs)) (λ x y hx hy. sym (cut_cells zs i j b x y hx hy)) s (count_at v) h in
      ap (or_empty leb plus neutral unbounded hopeless)
      (form_one (new xs) (new ys) (λ s v p six. (λ h. back ys s v ((both s v p six).0 (forth xs s v h)), λ h. back xs s v ((both s v p six).1 (forth ys s v h)))))

  form_long : (xs : List V) (o : Option (List V)) → canonical_form leb plus neutral unbounded hopeless xs ≡ o → length (or_empty leb plus neutral unbounded hopeless o) ≡ 49
  form_long xs (Some ys) is = form_length xs ys is
  form_long xs None is = empty_length hopeless

  pub cut_length : (xs : List V) (i j : ℕ) (b : V) → length (cut_form leb plus neutral unbounded hopeless xs i j b) ≡ 49
  cut_length xs i j b = form_long (tabled (cut_weights leb plus neutral unbounded hopeless (cell unbounded xs) i j b)) _ refl

  reset_long : (set : ℕ → Bool) (o : Option (List V)) → length (reset_of leb plus neutral unbounded hopeless set o) ≡ 49
  reset_long set (Some xs) = tabled_length (λ i j. cell unbounded xs (home set i) (home set j))
  reset_long set None = empty_length hopeless

  pub reset_length : (set : ℕ → Bool) (xs : List V) → length (reset_form leb plus neutral unbounded hopeless set xs) ≡ 49
  reset_length set xs = reset_long set (canonical_form leb plus neutral unbounded hopeless xs)

  delay_long : (o : Option (List V)) → length (delay_of leb plus neutral unbounded hopeless o) ≡ 49
  delay_long (Some xs) = tabled_length (λ i j. cond (not (eqb i 0) && eqb j 0) unbounded (cell unbounded xs i j))
  delay_long None = empty_length hopeless

  pub delay_length : (xs : List V) → length (delay_form leb plus neutral unbounded hopeless xs) ≡ 49
  delay_length xs = delay_long (canonical_form leb plus neutral unbounded hopeless xs)

-- limits are weights that stand for themselves
pub limit_embeds : Embeds limit_leb limit_plus (up_to (pos 0)) free (under (pos 0)) (λ l. l)
limit_embeds = record { laws = limit_laws; f_leb = λ x y. refl; f_plus = λ x y. refl; f_neutral = refl; f_unbounded = refl; f_hopeless = refl }

-- and so are signs, as limits with the constant 0
pub sign_embeds : Embeds sign_leb sign_plus AtMost Free Below sign_limit
sign_embeds = record { laws = sign_laws; f_leb = sign_leb_is; f_plus = sign_plus_is; f_neutral = refl; f_unbounded = refl; f_hopeless = refl }
