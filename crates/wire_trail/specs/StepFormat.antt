-- A step in a trail file.
use Rattle.std.specs.Prelude.{ℕ, cond, List, length, Some, None, Ok, Err, Option, ◌==◌, nat_lt}
use Rattle.slip.specs.declared.Refusal.TheVariants.{OutOfRange}
use Rattle.wire_trail.specs.declared.step.Step.{Step}
use Rattle.wire_trail.specs.declared.step.Step.TheVariants.{Wait, Start, Finish}
use Rattle.wire_fields.specs.Reading.{Parsed, ◌⨟◌, slip, byte_at, word_at, long_at}

abbrev pub wait_at : List ℕ → ℕ → Parsed Step
wait_at s p = long_at s p ⨟ λ n q. Ok (Wait n, q)

abbrev pub start_at : List ℕ → ℕ → Parsed Step
start_at s p = word_at s p ⨟ λ c q. byte_at s q ⨟ λ k r. Ok (Start c k, r)

abbrev pub finish_at : List ℕ → ℕ → Parsed Step
finish_at s p = byte_at s p ⨟ λ k q. Ok (Finish k, q)

-- w s f
abbrev pub step_at : List ℕ → ℕ → Parsed Step
step_at s p =
    byte_at s p ⨟ λ b q.
    cond (b == 119) (wait_at s q)
    (cond (b == 115) (start_at s q) (cond (b == 102) (finish_at s q) (Err (slip OutOfRange p))))

-- the next step, where the file has not ended
abbrev pub next_at : List ℕ → ℕ → Parsed (Option Step)
next_at s p = cond (nat_lt p (length s)) (step_at s p ⨟ λ t q. Ok (Some t, q)) (Ok (None, p))
