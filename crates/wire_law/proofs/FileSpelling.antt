-- The files and their bytes.
use Rattle.std.proofs.Common.{◌≡◌, ℕ, ◌+◌, ◌-◌, ◌<◌, ◌≤◌, Bool, true, false, cond, eqb, ltb, leb, ◌⊎◌, List, [], ◌∷◌, ◌++◌, length, drop, Some, None, Ok, Err, Option, sym, refl, ap, ◌∙◌, subst, inl, inr, append-nil, arith, length-append, length-drop}
use Rattle.std.proofs.lemmas.List.{flat_map_more, drop_all}
use Rattle.std.proofs.lemmas.Bool.{eqb-true, ltb-true, ltb-false}
use Rattle.std.specs.List.{flat_map}
use Rattle.slip.specs.declared.Refusal.TheVariants.{Surplus}
use Rattle.wire.specs.declared.cell.Cell.{Cell}
use Rattle.wire.specs.declared.step.Step.{Step}
use Rattle.wire.specs.declared.step.Step.TheVariants.{Wait, Start, Finish}
use Rattle.wire.specs.Reading.{Parsed, slip, byte_at, word_at, long_at}
use Rattle.wire.specs.CellFormat.{cell_at}
use Rattle.wire.specs.StepFormat.{wait_at, start_at, finish_at, step_at, next_at}
use Rattle.wire.specs.Files.{value, sized, count_at, cells_at, close_at, model_at, added, steps_at, trail_at}
use Rattle.wire_law.specs.Codes.{word_code, long_code, cell_code, model_code, step_code, trail_code}
use Rattle.wire_law.specs.Laws.{Bytes, ModelSpelt, TrailSpelt}
use Rattle.wire_law.proofs.Spelling.{Spells, join, through, landed, passed, many_keeps, list_row, byte_spells, word_spells, long_spells}
use Rattle.wire_law.proofs.CellSpelling.{cell_spells}

pub sized_ok : {A P : Type 0} (s : List ℕ) (d : Parsed A) (y : A) → sized s d ≡ Ok y → ((q : ℕ) → d ≡ Ok (y, q) → P) → P
sized_ok {A} {P} s d y e k =
    let had : (x : Parsed A) → value x ≡ Ok y → ((q : ℕ) → x ≡ Ok (y, q) → P) → P
    = λ x. elim x as (λ z. value z ≡ Ok y → ((q : ℕ) → z ≡ Ok (y, q) → P) → P) [
      | Ok v ↦ λ f j. j v.1 (let g : v.0 ≡ y = cc in ap (λ (w : A). Ok (w, v.1)) g)
      | Err z ↦ λ f j. let n : ◌≡◌ {A = ℕ} 0 1 = cc in absurd (omega arith)
    ] in
    let go : (b : Bool) → cond b (value d) (Err (slip Surplus 60000)) ≡ Ok y → P
    = λ b. elim b as (λ c. cond c (value d) (Err (slip Surplus 60000)) ≡ Ok y → P)
    [ true ↦ λ f. had d f k | false ↦ λ f. let n : ◌≡◌ {A = ℕ} 0 1 = cc in absurd (omega arith) ] in
    go (leb (length s) 60000) e

-- what was read up to the end is all
pub all_spelt : (s : List ℕ) (q : ℕ) (bs : List ℕ) → length s ≤ q → Spells s 0 q bs → s ≡ bs
all_spelt s q bs le e = e ∙ (ap (λ (t : List ℕ). bs ++ t) (drop_all q s le) ∙ append-nil bs)

module _ (s : List ℕ) (small : Bytes s) where
  pub count_spells : (least most p n q : ℕ) → count_at least most s p ≡ Ok (n, q) → Spells s p q (word_code n)
  count_spells least most p n q h =
      through (word_at s p) _ n q h (λ v r a h. passed (λ (x t : ℕ). Spells s p t (word_code x)) _ _ _ v n r q h (λ _. word_spells s small p v r a))

  cells_spell : (n p : ℕ) (cells : List Cell) (q : ℕ) → cells_at n s p ≡ Ok (cells, q) → Spells s p q (flat_map cell_code cells) × (length cells ≡ n)
  unfolding cells_at
  cells_spell n p cells q e =
      let got = list_row s cell_at cell_code (λ _. Unit {0}) (λ q r c h. (cell_spells s small q c r h, tt)) n p cells q e in (got.0, got.1)

pub model_spelt : ModelSpelt
model_spelt s first cells small e =
    sized_ok s (model_at s) (first, cells) e (λ q h.
    through (count_at 1 200 s 0) _ (first, cells) q h (λ n r a h.
    through (word_at s r) _ (first, cells) q h (λ f t b h.
    through (cells_at n s t) _ (first, cells) q h (λ cs u c h.
    through (close_at s u) _ (first, cells) q h (λ x v d h.
    landed (λ (y : ℕ × List Cell) (w : ℕ). s ≡ model_code y.0 y.1) (f, cs) (first, cells) v q h
    (passed (λ (y : Unit {0}) (w : ℕ). s ≡ model_code f cs) _ _ _ tt x u v d (λ ended.
    let end = eqb-true u (length s) ended in
    let c' = cells_spell s small n t cs u c in
    let n' : Spells s 0 r (word_code (length cs)) = subst (λ (m : ℕ). Spells s 0 r (word_code m)) (sym c'.1) (count_spells s small 1 200 0 n r a) in
    all_spelt s u (model_code f cs) (omega arith)
    (join s 0 r u (word_code (length cs)) (word_code f ++ flat_map cell_code cs) n'
    (join s r t u (word_code f) (flat_map cell_code cs) (word_spells s small r f t b) c'.0)))))))))

-- the branch that was taken
pub chosen : {A P : Type 0} (b : Bool) (x y : Parsed A) (v : A) (q : ℕ) → cond b x y ≡ Ok (v, q)
    → (b ≡ true → x ≡ Ok (v, q) → P) → (b ≡ false → y ≡ Ok (v, q) → P) → P
chosen true x y v q e k m = k refl e
chosen false x y v q e k m = m refl e

pub step_long : (t : Step) → 1 ≤ length (step_code t)
step_long (Wait n) = omega arith
step_long (Start c k) = omega arith
step_long (Finish k) = omega arith

-- the bytes of a step, if there is one
abbrev pub next_code : Option Step → List ℕ
next_code (Some t) = step_code t
next_code None = []

joined_added : (steps : List Step) (o : Option Step) → flat_map step_code steps ++ next_code o ≡ flat_map step_code (added steps o)
joined_added steps (Some t) = flat_map_more step_code [] steps t
joined_added steps None = append-nil (flat_map step_code steps)

module _ (s : List ℕ) (small : Bytes s) where
  wait_spells : (p : ℕ) (t : Step) (q : ℕ) → wait_at s p ≡ Ok (t, q) → (r : ℕ) → Spells s r p (119 ∷ []) → Spells s r q (step_code t)
  wait_spells p t q h r f =
      through (long_at s p) _ t q h (λ n u a h.
      landed (λ (y : Step) (w : ℕ). Spells s r w (step_code y)) _ t u q h (join s r p u (119 ∷ []) (long_code n) f (long_spells s small p n u a)))

  start_spells : (p : ℕ) (t : Step) (q : ℕ) → start_at s p ≡ Ok (t, q) → (r : ℕ) → Spells s r p (115 ∷ []) → Spells s r q (step_code t)
  start_spells p t q h r f =
      through (word_at s p) _ t q h (λ c u a h.
      through (byte_at s u) _ t q h (λ k v b h.
      landed (λ (y : Step) (w : ℕ). Spells s r w (step_code y)) _ t v q h
      (join s r p v (115 ∷ []) (word_code c ++ k ∷ []) f
      (join s p u v (word_code c) (k ∷ []) (word_spells s small p c u a) (byte_spells s small u k v b)))))

  finish_spells : (p : ℕ) (t : Step) (q : ℕ) → finish_at s p ≡ Ok (t, q) → (r : ℕ) → Spells s r p (102 ∷ []) → Spells s r q (step_code t)
  finish_spells p t q h r f =
      through (byte_at s p) _ t q h (λ k u a h.
      landed (λ (y : Step) (w : ℕ). Spells s r w (step_code y)) _ t u q h (join s r p u (102 ∷ []) (k ∷ []) f (byte_spells s small p k u a)))

  step_spells : (p : ℕ) (t : Step) (q : ℕ) → step_at s p ≡ Ok (t, q) → Spells s p q (step_code t)
  step_spells p t q h =
      through (byte_at s p) _ t q h (λ b r a h.
      let is : (n : ℕ) → eqb b n ≡ true → Spells s p r (n ∷ [])
      = λ n e. subst (λ (m : ℕ). Spells s p r (m ∷ [])) (eqb-true b n e) (byte_spells s small p b r a) in
      chosen (eqb b 119) _ _ t q h (λ e g. wait_spells r t q g p (is 119 e)) (λ e g.
      chosen (eqb b 115) _ _ t q g (λ e g. start_spells r t q g p (is 115 e)) (λ e g.
      chosen (eqb b 102) _ _ t q g (λ e g. finish_spells r t q g p (is 102 e)) (λ e g.
      let n : ◌≡◌ {A = ℕ} 0 1 = cc in absurd (omega arith)))))

  -- a step goes on, and without one the file has ended
  next_spells : (p : ℕ) (o : Option Step) (q : ℕ) → next_at s p ≡ Ok (o, q) → Spells s p q (next_code o) × ((p < q) ⊎ (length s ≤ q))
  next_spells p o q h =
      chosen (ltb p (length s)) _ _ o q h
      (λ more g.
      through (step_at s p) _ o q g (λ t u a g.
      landed (λ (y : Option Step) (w : ℕ). Spells s p w (next_code y) × ((p < w) ⊎ (length s ≤ w))) _ o u q g
      (let e = step_spells p t u a in
      let l : length s - p ≡ length (step_code t) + (length s - u)
      = sym (length-drop p s) ∙ (ap length e ∙ (length-append (step_code t) (drop u s) ∙ ap (λ (n : ℕ). length (step_code t) + n) (length-drop u s))) in
      (e, inl (omega (arith, step_long t, ltb-true p (length s) more))))))
      (λ none g.
      landed (λ (y : Option Step) (w : ℕ). Spells s p w (next_code y) × ((p < w) ⊎ (length s ≤ w))) _ o p q g (refl, inr (ltb-false p (length s) none)))

  steps_spell : (n p : ℕ) (steps : List Step) (q : ℕ) → steps_at n s p ≡ Ok (steps, q)
      → Spells s p q (flat_map step_code steps) × ((p + n ≤ q) ⊎ (length s ≤ q))
  unfolding steps_at
  steps_spell n p steps q e =
      many_keeps (λ steps _ step. added steps step) (λ _. next_at) [] s p
      (λ k ts t. Spells s p t (flat_map step_code ts) × ((p + k ≤ t) ⊎ (length s ≤ t)))
      (refl, inl (omega arith)) n
      (λ k ts t r o lt inv h.
      let got = next_spells t o r h in (
        subst (λ (l : List ℕ). Spells s p r l) (joined_added ts o) (join s p t r (flat_map step_code ts) (next_code o) inv.0 got.0),
        elim got.1 [
          | inl on ↦ elim inv.1 [ inl f ↦ inl (omega arith) | inr f ↦ inr (omega arith) ]
          | inr end ↦ inr end
        ],
      ))
      steps q e

pub trail_spelt : TrailSpelt
trail_spelt s scale steps small e =
    sized_ok s (trail_at s) (scale, steps) e (λ q h.
    through (word_at s 0) _ (scale, steps) q h (λ n p a h.
    through (steps_at (length s - p) s p) _ (scale, steps) q h (λ ts u b h.
    landed (λ (y : ℕ × List Step) (w : ℕ). s ≡ trail_code y.0 y.1) (n, ts) (scale, steps) u q h
    (let b' = steps_spell s small (length s - p) p ts u b in
    let end : length s ≤ u = elim b'.1 [ inl f ↦ omega arith | inr f ↦ f ] in
    all_spelt s u (trail_code n ts) end (join s 0 p u (word_code n) (flat_map step_code ts) (word_spells s small 0 n p a) b'.0)))))
