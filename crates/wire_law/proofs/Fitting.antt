-- What is read fits a file.
use Rattle.std.proofs.Common.{◌≡◌, ℕ, zero, suc, ◌+◌, ◌-◌, ◌<◌, ◌≤◌, Bool, true, false, eqb, ltb, leb, List, [], length, get_or, drop, set, replicate, None, Ok, Option, sym, ap, ◌∙◌, arith, lit<, lit≤, length-set}
use lib.ListN.{length-replicate}
use Rattle.std.proofs.ByRecursion.{All-get_or, All-push, All-set}
use Rattle.std.proofs.lemmas.List.{drop-drop, drop-set-lt}
use Rattle.std.proofs.lemmas.Bool.{leb-true, and_parts}
use Rattle.std.specs.List.{AllByRecursion}
use Rattle.wire.specs.declared.cell.Event.{Event}
use Rattle.wire.specs.declared.cell.End.{End}
use Rattle.wire.specs.declared.cell.Ends.{Ends}
use Rattle.wire.specs.declared.cell.Cell.{Cell}
use Rattle.wire.specs.declared.step.Step.{Step}
use Rattle.wire.specs.Reading.{Parsed, byte_at, word_at, long_at, many}
use Rattle.wire.specs.CellFormat.{bit, letter_at, no_event, event_at, events_at, exits_at, flags_at, end_at, no_ends, ends_at, clocks_at, dim_of, dim_few, map_at, cell_at}
use Rattle.wire.specs.StepFormat.{step_at, next_at}
use Rattle.wire.specs.Files.{count_at, cells_at, close_at, model_at, added, steps_at, trail_at}
use Rattle.wire_law.specs.Laws.{Bytes, EndFits, EndsFit, EventFits, CellFits, StepFits, ModelFits, TrailFits}
use Rattle.wire_law.specs.Codes.{cell_code}
use Rattle.wire_law.proofs.Spelling.{through, landed, passed, many_keeps, list_row}
use Rattle.wire_law.proofs.CellSpelling.{cell_spells}
use Rattle.wire_law.proofs.FileSpelling.{chosen, sized_ok}

-- readings in a row into an array fill it from the front
row_fits : {A : Type 0} (s : List ℕ) (d : ℕ → List ℕ → ℕ → Parsed A) (P : A → Type 0) (blank : A) → P blank
    → ((k q r : ℕ) (x : A) → d k s q ≡ Ok (x, r) → P x)
    → (n m : ℕ) → m ≤ n → (p : ℕ) (xs : List A) (q : ℕ) → many set d (replicate n blank) m s p ≡ Ok (xs, q)
    → (length xs ≡ n) × (drop m xs ≡ replicate (n - m) blank) × AllByRecursion P xs
row_fits {A} s d P blank none each n m le p xs q e =
    many_keeps set d (replicate n blank) s p
    (λ k ys t. (length ys ≡ n) × (drop k ys ≡ replicate (n - k) blank) × AllByRecursion P ys)
    (let z : n ≡ n - 0 = omega arith in (length-replicate n blank, ap (λ (j : ℕ). replicate j blank) z, all_blank n)) m
    (λ k ys t r x lt inv h.
    let su : k + 1 ≡ suc k = omega arith in
    let left : n - k ≡ suc (n - suc k) = omega arith in (
      length-set ys k x ∙ inv.0,
      drop-set-lt (suc k) ys k x (omega arith)
          ∙ (sym (ap (λ (j : ℕ). drop j ys) su) ∙ (sym (drop-drop 1 k ys) ∙ (ap (drop 1) inv.1 ∙ ap (λ (j : ℕ). drop 1 (replicate j blank)) left))),
      All-set P ys k x (each k t r x h) inv.2,
    ))
    xs q e
  where
    all_blank : (n : ℕ) → AllByRecursion P (replicate n blank)
    all_blank zero = tt
    all_blank (suc n) = (none, all_blank n)

module _ (s : List ℕ) (small : Bytes s) where
  below : (i : ℕ) → i < length s → get_or s i 0 < 256
  below i lt = All-get_or (λ b. b < 256) s i 0 lt small

  pub byte_fits : (p v q : ℕ) → byte_at s p ≡ Ok (v, q) → v < 256
  byte_fits p v q e = passed (λ (w t : ℕ). w < 256) _ _ _ _ _ _ _ e (λ h. let l = leb-true (p + 1) (length s) h in below p (omega arith))

  pub word_fits : (p v q : ℕ) → word_at s p ≡ Ok (v, q) → v < 65536
  word_fits p v q e =
      passed (λ (w t : ℕ). w < 65536) _ _ _ _ _ _ _ e
      (λ h. let l = leb-true (p + 2) (length s) h in
      let a = below p (omega arith) in
      let b = below (p + 1) (omega arith) in
      omega arith)

  long_fits : (p v q : ℕ) → long_at s p ≡ Ok (v, q) → v < 4294967296
  long_fits p v q e =
      passed (λ (w t : ℕ). w < 4294967296) _ _ _ _ _ _ _ e
      (λ h. let l = leb-true (p + 4) (length s) h in
      let a = below p (omega arith) in
      let b = below (p + 1) (omega arith) in
      let c = below (p + 2) (omega arith) in
      let d = below (p + 3) (omega arith) in
      omega arith)

  event_fits : (p : ℕ) (e : Event) (q : ℕ) → event_at s p ≡ Ok (e, q) → EventFits e
  event_fits p e q h =
      through (letter_at s p) _ e q h (λ l t a h.
      through (word_at s t) _ e q h (λ m u b h.
      through (word_at s u) _ e q h (λ n v c h.
      landed (λ (x : Event) (y : ℕ). EventFits x) _ e v q h (word_fits t m u b, word_fits u n v c))))

  exits_fit : (has : Bool) (p x q : ℕ) → exits_at has s p ≡ Ok (x, q) → x ≤ 63
  exits_fit false p x q h = landed (λ (y t : ℕ). y ≤ 63) 0 x p q h (lit≤ tt)
  exits_fit true p x q h =
      through (byte_at s p) _ x q h (λ v r a h.
      passed (λ (y t : ℕ). y ≤ 63) _ _ _ v x r q h (λ ok. leb-true v 63 (and_parts (leb 1 v) (leb v 63) ok).1))

  end_fits : (has o : Bool) (p : ℕ) (e : Option End) (q : ℕ) → end_at has o s p ≡ Ok (e, q) → EndFits e
  end_fits false o p e q h = landed (λ (x : Option End) (t : ℕ). EndFits x) None e p q h tt
  end_fits true o p e q h =
      through (word_at s p) _ e q h (λ u r a h. passed (λ (x : Option End) (t : ℕ). EndFits x) _ _ _ _ e r q h (λ ok. leb-true u 9999 ok))

  ends_fit : (has : Bool) (p : ℕ) (e : Ends) (q : ℕ) → ends_at has s p ≡ Ok (e, q) → EndsFit e
  ends_fit false p e q h = landed (λ (x : Ends) (t : ℕ). EndsFit x) no_ends e p q h (tt, tt)
  ends_fit true p e q h =
      through (flags_at s p) _ e q h (λ f r a h.
      through (end_at (bit f 0) (bit f 1) s r) _ e q h (λ l t b h.
      through (end_at (bit f 2) (bit f 3) s t) _ e q h (λ g u c h.
      landed (λ (x : Ends) (y : ℕ). EndsFit x) _ e u q h (end_fits _ _ r l t b, end_fits _ _ t g u c))))

  cell_fits : (p : ℕ) (c : Cell) (q : ℕ) → cell_at s p ≡ Ok (c, q) → CellFits c
  unfolding events_at clocks_at
  cell_fits p c q h =
      through (map_at s p) _ c q h (λ m r a h.
      through (events_at (dim_of m) s r) _ c q h (λ events t b h.
      through (exits_at (bit m 5) s t) _ c q h (λ x u d h.
      through (clocks_at m s u) _ c q h (λ ends v e h.
      landed (λ (y : Cell) (w : ℕ). CellFits y) _ c v q h
      (let b' = row_fits s (λ _. event_at) EventFits no_event (lit< tt, lit< tt) (λ k q r y f. event_fits q y r f) 4 (dim_of m) (dim_few m) r events t b in
      let e' = row_fits s (λ k. ends_at (bit m (k + 6))) EndsFit no_ends (tt, tt) (λ k q r y f. ends_fit _ q y r f) 6 6 (lit≤ tt) u ends v e in
      record { slots = b'.0; blank = b'.1; faces = b'.2; exit = exits_fit (bit m 5) t x u d; clocks = e'.0; ranges = e'.2 })))))

  step_fits : (p : ℕ) (t : Step) (q : ℕ) → step_at s p ≡ Ok (t, q) → StepFits t
  step_fits p t q h =
      through (byte_at s p) _ t q h (λ b r a h.
      chosen (eqb b 119) _ _ t q h
      (λ e g. through (long_at s r) _ t q g (λ n u c g. landed (λ (y : Step) (w : ℕ). StepFits y) _ t u q g (long_fits r n u c))) (λ e g.
      chosen (eqb b 115) _ _ t q g
      (λ e g. through (word_at s r) _ t q g (λ n u c g. through (byte_at s u) _ t q g (λ k v d g.
      landed (λ (y : Step) (w : ℕ). StepFits y) _ t v q g (word_fits r n u c, byte_fits u k v d)))) (λ e g.
      chosen (eqb b 102) _ _ t q g
      (λ e g. through (byte_at s r) _ t q g (λ k u c g. landed (λ (y : Step) (w : ℕ). StepFits y) _ t u q g (byte_fits r k u c))) (λ e g.
      let n : ◌≡◌ {A = ℕ} 0 1 = cc in absurd (omega arith)))))

  added_fits : (steps : List Step) (p : ℕ) (o : Option Step) (q : ℕ) → next_at s p ≡ Ok (o, q) → AllByRecursion StepFits steps → AllByRecursion StepFits (added steps o)
  added_fits steps p o q h fit =
      chosen (ltb p (length s)) _ _ o q h
      (λ e g. through (step_at s p) _ o q g (λ t u a g.
      landed (λ (y : Option Step) (w : ℕ). AllByRecursion StepFits (added steps y)) _ o u q g (All-push StepFits steps t fit (step_fits p t u a))))
      (λ e g. landed (λ (y : Option Step) (w : ℕ). AllByRecursion StepFits (added steps y)) _ o p q g fit)

  pub count_fits : (least most p n q : ℕ) → count_at least most s p ≡ Ok (n, q) → (least ≤ n) × (n ≤ most)
  count_fits least most p n q h =
      through (word_at s p) _ n q h (λ v r a h.
      passed (λ (x t : ℕ). (least ≤ x) × (x ≤ most)) _ _ _ v n r q h (λ ok.
      let parts = and_parts (leb least v) (leb v most) ok in
      (leb-true least v parts.0, leb-true v most parts.1)))

  cells_fit : (n p : ℕ) (cells : List Cell) (q : ℕ) → cells_at n s p ≡ Ok (cells, q) → (length cells ≡ n) × AllByRecursion CellFits cells
  unfolding cells_at
  cells_fit n p cells q e =
      let got = list_row s cell_at cell_code CellFits (λ q r c h. (cell_spells s small q c r h, cell_fits q c r h)) n p cells q e in (got.1, got.2)

  steps_fit : (n p : ℕ) (steps : List Step) (q : ℕ) → steps_at n s p ≡ Ok (steps, q) → AllByRecursion StepFits steps
  unfolding steps_at
  steps_fit n p steps q e =
      many_keeps (λ ts _ o. added ts o) (λ _. next_at) [] s p (λ k ts t. AllByRecursion StepFits ts) tt n
      (λ k ts t r o lt inv h. added_fits ts t o r h inv)
      steps q e

pub model_fits : ModelFits
model_fits s first cells small e =
    sized_ok s (model_at s) (first, cells) e (λ q h.
    through (count_at 1 200 s 0) _ (first, cells) q h (λ n r a h.
    through (word_at s r) _ (first, cells) q h (λ f t b h.
    through (cells_at n s t) _ (first, cells) q h (λ cs u c h.
    through (close_at s u) _ (first, cells) q h (λ x v d h.
    landed (λ (y : ℕ × List Cell) (w : ℕ). (y.0 < 65536) × (1 ≤ length y.1) × (length y.1 ≤ 200) × AllByRecursion CellFits y.1) (f, cs) (first, cells) v q h
    (let n' = count_fits s small 1 200 0 n r a in
    let c' = cells_fit s small n t cs u c in
    (word_fits s small r f t b, omega (arith, n'.0, c'.0), omega (arith, n'.1, c'.0), c'.1)))))))

pub trail_fits : TrailFits
trail_fits s scale steps small e =
    sized_ok s (trail_at s) (scale, steps) e (λ q h.
    through (word_at s 0) _ (scale, steps) q h (λ n p a h.
    through (steps_at (length s - p) s p) _ (scale, steps) q h (λ ts u b h.
    landed (λ (y : ℕ × List Step) (w : ℕ). (y.0 < 65536) × AllByRecursion StepFits y.1) (n, ts) (scale, steps) u q h
    (word_fits s small 0 n p a, steps_fit s small (length s - p) p ts u b))))
