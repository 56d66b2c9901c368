-- A file read back.
use Rattle.std.proofs.Common.{◌≡◌, ℕ, zero, suc, ◌-◌, ◌<◌, ◌≤◌, Bool, cond, ◌&&◌, leb, List, [], ◌∷◌, ◌++◌, length, get_or, take, Some, None, Ok, Err, sym, refl, ap, ◌∙◌, subst, inl, inr, append-nil, arith, lit≤, length-append, length-drop}
use Rattle.std.proofs.Math.Seq.{take-suc}
use Rattle.std.proofs.lemmas.List.{take_all}
use Rattle.std.proofs.lemmas.Bool.{le-leb, lt-ltb, le-ltb, eq-eqb, cases_eq}
use Rattle.std.proofs.lemmas.Bool.Decides.{nat_tests}
use Rattle.std.specs.List.{flat_map, AllByRecursion}
use Rattle.slip.specs.declared.Refusal.TheVariants.{BadCount, Surplus}
use Rattle.wire.specs.declared.cell.Cell.{Cell}
use Rattle.wire.specs.declared.step.Step.{Step}
use Rattle.wire.specs.declared.step.Step.TheVariants.{Wait, Start, Finish}
use Rattle.wire.specs.Reading.{Parsed, ◌⨟◌, slip, byte_at, word_at, long_at, many}
use Rattle.wire.specs.CellFormat.{cell_at}
use Rattle.wire.specs.StepFormat.{step_at, next_at}
use Rattle.wire.specs.Files.{value, sized, cells_at, model_at, added, steps_at, trail_at}
use Rattle.wire.proofs.Steps.{idle}
use Rattle.wire_law.specs.Codes.{word_code, long_code, cell_code, model_code, step_code, trail_code}
use Rattle.wire_law.specs.Laws.{CellFits, ModelRead, TrailRead}
use Rattle.wire_law.proofs.Back.{Rest, Back, back_ok, back_from, back_then, back_kept, back_same, many_back, list_back, joined_more_at, back_byte, back_word, back_long}
use Rattle.wire_law.proofs.CellBack.{back_cell}
use Rattle.wire_law.proofs.FileSpelling.{step_long, next_code}
use Rattle.wire_law.proofs.Sizes.{model_short, trail_bytes}

-- a file that is not too long
pub sized_back : {A : Type 0} (s : List ℕ) (d : Parsed A) (v : A) (q : ℕ) → length s ≤ 60000 → d ≡ Ok (v, q) → sized s d ≡ Ok v
sized_back {A} s d v q le e =
    ap (λ (b : Bool). cond b (value d) (Err (slip Surplus 60000))) (le-leb (length s) 60000 le) ∙ ap (λ (x : Parsed A). value x) e

-- at the end
pub ended : (s : List ℕ) (p : ℕ) → Rest s p [] → p ≡ length s
ended s p h = let l = sym (length-drop p s) ∙ ap length h.0 in omega (arith, h.1)

joined_long : (steps : List Step) → length steps ≤ length (flat_map step_code steps)
joined_long [] = lit≤ tt
joined_long (t ∷ ts) = omega (arith, length-append (step_code t) (flat_map step_code ts), step_long t, joined_long ts)

module _ (s : List ℕ) where
  back_cells : (first : Cell) (cells : List Cell) → AllByRecursion CellFits cells → Back s (cells_at (length cells) s) (flat_map cell_code cells) cells
  unfolding cells_at
  back_cells first cells fit = list_back s cell_at cell_code CellFits first (back_cell s) cells fit

  back_model : (first : ℕ) (c : Cell) (cells : List Cell) → length (c ∷ cells) ≤ 200 → AllByRecursion CellFits (c ∷ cells)
      → Rest s 0 (model_code first (c ∷ cells)) → (q : ℕ) × (model_at s ≡ Ok ((first, c ∷ cells), q))
  back_model first c cells few fit start =
      let all = c ∷ cells in
      let n = length all in
      let count = back_kept s (word_at s) (λ n. leb 1 n && leb n 200) BadCount (λ n. n) (word_code n) n (grind (arith, nat_tests)) (back_word s n) in
      let x = count 0 (word_code first ++ flat_map cell_code all) start in
      let y = back_word s first x.0 (flat_map cell_code all) x.2 in
      let z = back_cells c all fit y.0 [] (subst (λ (l : List ℕ). Rest s y.0 l) (sym (append-nil (flat_map cell_code all))) y.2) in
      let end = eq-eqb z.0 (length s) (ended s z.0 z.2) in
      (z.0, rw (x.1, y.1, z.1, end) refl)

  back_step : (t : Step) → Back s (step_at s) (step_code t) t
  back_step (Wait n) =
      back_from s (byte_at s) _ (119 ∷ []) (long_code n ++ []) 119 (Wait n) (back_byte s 119)
      (λ _. back_then s (long_at s) _ (long_code n) [] n (Wait n) (back_long s n) (back_ok s (Wait n)))
  back_step (Start c k) =
      back_from s (byte_at s) _ (115 ∷ []) (word_code c ++ (k ∷ [] ++ [])) 115 (Start c k) (back_byte s 115)
      (λ _. back_then s (word_at s) _ (word_code c) (k ∷ [] ++ []) c (Start c k) (back_word s c)
      (back_then s (byte_at s) _ (k ∷ []) [] k (Start c k) (back_byte s k) (back_ok s (Start c k))))
  back_step (Finish k) =
      back_from s (byte_at s) _ (102 ∷ []) (k ∷ [] ++ []) 102 (Finish k) (back_byte s 102)
      (λ _. back_then s (byte_at s) _ (k ∷ []) [] k (Finish k) (back_byte s k) (back_ok s (Finish k)))

  back_next : (t : Step) → Back s (next_at s) (next_code (Some t)) (Some t)
  back_next t p u h =
      let x = back_step t p u h in
      let l = sym (length-drop p s) ∙ (ap length h.0 ∙ length-append (step_code t) u) in
      let lt : p < length s = omega (arith, step_long t) in (
        x.0,
        ap (λ (b : Bool). cond b (step_at s p ⨟ λ t q. Ok (Some t, q)) (Ok (None, p))) (lt-ltb p (length s) lt)
            ∙ ap (λ (d : Parsed Step). d ⨟ λ t q. Ok (Some t, q)) x.1,
        x.2,
      )

  back_steps : (steps : List Step) → Back s (steps_at (length steps) s) (flat_map step_code steps) steps
  unfolding steps_at
  back_steps steps =
      let whole = take_all (length steps) steps (omega arith) in
      back_same s _ _ _ _ _ (ap (flat_map step_code) whole) whole
      (many_back s (λ ts _ o. added ts o) (λ _. next_at) next_code (λ k. Some (get_or steps k (Finish 0))) (λ k. flat_map step_code (take k steps)) (λ k. take k steps)
      refl (length steps)
      (λ k lt. back_next (get_or steps k (Finish 0)))
      (λ k lt. joined_more_at step_code steps k (Finish 0) lt)
      (λ k lt. sym (take-suc steps k (Finish 0) lt)))

  back_trail : (scale : ℕ) (steps : List Step) → Rest s 0 (trail_code scale steps) → (q : ℕ) × (trail_at s ≡ Ok ((scale, steps), q))
  unfolding steps_at
  back_trail scale steps start =
      let x = back_word s scale 0 (flat_map step_code steps) start in
      let y = back_steps steps x.0 [] (subst (λ (l : List ℕ). Rest s x.0 l) (sym (append-nil (flat_map step_code steps))) x.2) in
      let l = sym (length-drop x.0 s) ∙ ap length x.2.0 in
      let enough : length steps ≤ length s - x.0 = omega (arith, l, joined_long steps) in
      let last : length s ≤ y.0 = omega (arith, ended s y.0 y.2) in (
        y.0,
        ap (λ (d : Parsed ℕ). d ⨟ λ scale p. steps_at (length s - p) s p ⨟ λ steps q. Ok ((scale, steps), q)) x.1
            ∙ ap (λ (d : Parsed (List Step)). d ⨟ λ steps q. Ok ((scale, steps), q)) (idle s x.0 (length steps) (length s - x.0) y.0 steps enough last y.1),
      )

pub model_read : ModelRead
model_read first [] lt some few fit = absurd (omega arith)
model_read first (c ∷ cells) lt some few fit =
    let s = model_code first (c ∷ cells) in
    let short = model_short first (c ∷ cells) lt few fit in
    let x = back_model s first c cells few fit (refl, omega arith) in
    (short.bytes, sized_back s (model_at s) (first, c ∷ cells) x.0 short.most x.1)

pub trail_read : TrailRead
trail_read scale steps lt fit short =
    let s = trail_code scale steps in
    let x = back_trail s scale steps (refl, omega arith) in
    (trail_bytes scale steps lt fit, sized_back s (trail_at s) (scale, steps) x.0 short x.1)
