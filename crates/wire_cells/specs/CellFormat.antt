-- A cell in a file.
use Rattle.std.specs.Prelude.{ℕ, ◌+◌, ◌^◌, ◌<◌, ◌≤◌, Bool, cond, ◌&&◌, List, replicate, Some, None, Ok, Err, Option, ◌==◌, bit_and, count_ones, nat_le, nat_lt, slice_set}
use Rattle.std.proofs.Common.{subst, sym}
use Rattle.std.proofs.lemmas.Nat.{ones-le, and_mask, mod_below, pow_pos}
use Rattle.slip.specs.declared.Refusal.TheVariants.{BadBits, OutOfRange}
use Rattle.wire_cells.specs.declared.cell.Letter.{Letter}
use Rattle.wire_cells.specs.declared.cell.Letter.TheVariants.{Barrier, Display, Read, Write, Sensor}
use Rattle.wire_cells.specs.declared.cell.Event.{Event}
use Rattle.wire_ends.specs.declared.ends.Ends.{Ends}
use Rattle.wire_cells.specs.declared.cell.Cell.{Cell}
use Rattle.wire_fields.specs.Reading.{Parsed, ◌⨟◌, slip, byte_at, word_at, kept, many}
pub use Rattle.wire_ends.specs.EndsFormat.{end_ok, flags_at, end_at, no_ends, ends_at}
unfoldable pub use Rattle.wire_ends.specs.EndsFormat.{bit, flags_ok}

-- B D R W S
abbrev pub letter_of : ℕ → Option Letter
letter_of b =
    cond (b == 66) (Some Barrier)
    (cond (b == 68) (Some Display)
    (cond (b == 82) (Some Read) (cond (b == 87) (Some Write) (cond (b == 83) (Some Sensor) None))))

-- a value that a byte at p stands for, with the next place q
abbrev pub or_refuse : {A : Type 0} → Option A → ℕ → ℕ → Parsed A
or_refuse (Some v) p q = Ok (v, q)
or_refuse None p q = Err (slip OutOfRange p)

abbrev pub letter_at : List ℕ → ℕ → Parsed Letter
letter_at s p = byte_at s p ⨟ λ b q. or_refuse (letter_of b) p q

abbrev pub event_at : List ℕ → ℕ → Parsed Event
event_at s p =
    letter_at s p ⨟ λ l q. word_at s q ⨟ λ m r. word_at s r ⨟ λ n t. Ok (record { letter = l; lower = m; upper = n }, t)

-- an event that is not there
abbrev pub no_event : Event
no_event = record { letter = Barrier; lower = 0; upper = 0 }

unfoldable pub events_at : ℕ → List ℕ → ℕ → Parsed (List Event)
events_at n s p = many slice_set (λ _. event_at) (replicate 4 no_event) n s p

abbrev pub exit_set_at : List ℕ → ℕ → Parsed ℕ
exit_set_at s p = byte_at s p ⨟ λ e q. kept (nat_le 1 e && nat_le e 63) OutOfRange p e q

-- the exit set, where the map has one
abbrev pub exits_at : Bool → List ℕ → ℕ → Parsed ℕ
exits_at has s p = cond has (exit_set_at s p) (Ok (0, p))

unfoldable pub clocks_at : ℕ → List ℕ → ℕ → Parsed (List Ends)
clocks_at m s p = many slice_set (λ k. ends_at (bit m (k + 6))) (replicate 6 no_ends) 6 s p

-- how many events a map has
unfoldable pub dim_of : ℕ → ℕ
dim_of m = count_ones (bit_and m 15)

pub dim_few : (m : ℕ) → dim_of m ≤ 4
unfolding dim_of
dim_few m =
    ones-le 4 (bit_and m 15)
    (subst (λ (x : ℕ). x < 16) (sym (and_mask m 4)) (mod_below m 16 (pow_pos 4)))

-- bits 12 to 15 do not stand, and bits 0 to 3 have no hole
unfoldable pub map_ok : ℕ → Bool
map_ok m = nat_lt m 4096 && bit_and m 15 + 1 == 2 ^ dim_of m

abbrev pub map_at : List ℕ → ℕ → Parsed ℕ
map_at s p = word_at s p ⨟ λ m q. kept (map_ok m) BadBits p m q

abbrev pub cell_of : ℕ → List Event → ℕ → List Ends → Cell
cell_of m events exits ends =
    record { events = events; dim = dim_of m; last = bit m 4; exits = exits; ends = ends; few = dim_few m }

abbrev pub cell_at : List ℕ → ℕ → Parsed Cell
cell_at s p =
    map_at s p ⨟ λ m q.
    events_at (dim_of m) s q ⨟ λ events r.
    exits_at (bit m 5) s r ⨟ λ exits t. clocks_at m s t ⨟ λ ends u. Ok (cell_of m events exits ends, u)
