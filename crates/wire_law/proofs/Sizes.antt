-- How long a file is, and that it is made of bytes.
use Rattle.std.proofs.Common.{ℕ, ◌+◌, ◌*◌, ◌<◌, ◌≤◌, Bool, true, false, cond, eqb, List, [], ◌∷◌, ◌++◌, length, take, Some, None, Option, subst, mul-suc, arith, lit<, lit≤, length-append}
use Rattle.std.proofs.ByRecursion.{All-append, All-take}
use Rattle.std.proofs.lemmas.List.{length-take-le}
use Rattle.std.specs.List.{flat_map, AllByRecursion}
use Rattle.wire.specs.declared.cell.Letter.{Letter}
use Rattle.wire.specs.declared.cell.Letter.TheVariants.{Barrier, Display, Read, Write, Sensor}
use Rattle.wire.specs.declared.cell.Event.{Event}
use Rattle.wire.specs.declared.cell.End.{End}
use Rattle.wire.specs.declared.cell.Ends.{Ends}
use Rattle.wire.specs.declared.cell.Cell.{Cell}
use Rattle.wire.specs.declared.step.Step.{Step}
use Rattle.wire.specs.declared.step.Step.TheVariants.{Wait, Start, Finish}
use Rattle.wire_law.specs.Codes.{word_code, letter_code, event_code, end_bits, end_code, clock_bits, ends_code, map_bits, cell_code, model_code, step_code, trail_code}
use Rattle.wire_law.specs.Laws.{Bytes, EndFits, EndsFit, EventFits, CellFits, StepFits}
use Rattle.wire_law.proofs.CellBack.{map_below}

-- bytes, and at most n of them
pub record Short (n : ℕ) (bs : List ℕ) : Type 0 where
  pub bytes : Bytes bs
  pub most : length bs ≤ n

pub both : {m n : ℕ} {a b : List ℕ} → Short m a → Short n b → Short (m + n) (a ++ b)
both {m} {n} {a} {b} x y =
    record { bytes = All-append (λ n. n < 256) a b x.bytes y.bytes; most = omega (arith, length-append a b) }

pub joined_short : {A : Type 0} (P : A → Type 0) (code : A → List ℕ) (n : ℕ) → ((x : A) → P x → Short n (code x))
    → (xs : List A) → AllByRecursion P xs → Short (n * length xs) (flat_map code xs)
joined_short P code n each [] fit = record { bytes = tt; most = omega arith }
joined_short P code n each (x ∷ xs) fit =
    subst (λ (k : ℕ). Short k (flat_map code (x ∷ xs))) (omega (arith, mul-suc n (length xs)))
    (both (each x fit.0) (joined_short P code n each xs fit.1))

pub one : {b : ℕ} → b < 256 → Short 1 (b ∷ [])
one h = record { bytes = (h, tt); most = lit≤ tt }

pub word_short : (n : ℕ) → n < 65536 → Short 2 (word_code n)
word_short n h = record { bytes = (omega arith, (omega arith, tt)); most = lit≤ tt }

letter_byte : (l : Letter) → letter_code l < 256
letter_byte Barrier = lit< tt
letter_byte Display = lit< tt
letter_byte Read = lit< tt
letter_byte Write = lit< tt
letter_byte Sensor = lit< tt

event_short : (e : Event) → EventFits e → Short 5 (event_code e)
event_short e fit = both (one (letter_byte e.letter)) (both (word_short e.lower fit.0) (word_short e.upper fit.1))

-- either nothing or bs
maybe_short : (b : Bool) {n : ℕ} {bs : List ℕ} → Short n bs → Short n (cond b [] bs)
maybe_short true h = record { bytes = tt; most = omega arith }
maybe_short false h = h

end_short : (e : Option End) → EndFits e → Short 2 (end_code e)
end_short None h = record { bytes = tt; most = lit≤ tt }
end_short (Some e) h = word_short e.units (omega arith)

bits_below : (e : Option End) → end_bits e ≤ 3
bits_below None = lit≤ tt
bits_below (Some e) = elim e.«open» as (λ b. cond b 3 1 ≤ 3) [ true ↦ lit≤ tt | false ↦ lit≤ tt ]

ends_short : (e : Ends) → EndsFit e → Short 5 (ends_code e)
ends_short e fit =
    let small : clock_bits e < 256 = omega (arith, bits_below e.low, bits_below e.high) in
    maybe_short (eqb (clock_bits e) 0) (both (one small) (both (end_short e.low fit.0) (end_short e.high fit.1)))

cell_short : (c : Cell) → CellFits c → Short 53 (cell_code c)
cell_short c fit =
    let few = length-take-le c.dim c.events (omega (arith, c.few, fit.slots)) in
    let all = both (word_short (map_bits c) (omega (arith, map_below c fit)))
    (both (joined_short EventFits event_code 5 event_short (take c.dim c.events) (All-take EventFits c.dim c.events fit.faces))
    (both (maybe_short (eqb c.exits 0) (one {b = c.exits} (omega (arith, fit.exit))))
    (joined_short EndsFit ends_code 5 ends_short c.ends fit.ranges))) in
    record { bytes = all.bytes; most = omega (arith, all.most, few, c.few, fit.clocks) }

pub model_short : (first : ℕ) (cells : List Cell) → first < 65536 → length cells ≤ 200 → AllByRecursion CellFits cells → Short 60000 (model_code first cells)
model_short first cells lt few fit =
    let all = both (word_short (length cells) (omega arith)) (both (word_short first lt) (joined_short CellFits cell_code 53 cell_short cells fit)) in
    record { bytes = all.bytes; most = omega (arith, all.most) }

step_short : (t : Step) → StepFits t → Short 5 (step_code t)
step_short (Wait n) h = record { bytes = (lit< tt, (omega arith, (omega arith, (omega arith, (omega arith, tt))))); most = lit≤ tt }
step_short (Start c k) h = record { bytes = (lit< tt, (omega (arith, h.0), (omega arith, (h.1, tt)))); most = lit≤ tt }
step_short (Finish k) h = record { bytes = (lit< tt, (h, tt)); most = lit≤ tt }

pub trail_bytes : (scale : ℕ) (steps : List Step) → scale < 65536 → AllByRecursion StepFits steps → Bytes (trail_code scale steps)
trail_bytes scale steps lt fit = (both (word_short scale lt) (joined_short StepFits step_code 5 step_short steps fit)).bytes
