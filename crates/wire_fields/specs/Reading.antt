-- Reading fields from the front of a file: what stands at a place, and where the next field begins.
use Rattle.std.specs.Prelude.{◌≡◌, ℕ, zero, suc, ◌+◌, ◌-◌, ◌*◌, Bool, cond, ◌&&◌, List, [], ◌∷◌, ◌++◌, length, take, drop, ℤ, pos, negsuc, Ok, Err, Result, ◌==◌, nat_le, nat_lt, slice_index}
use Rattle.slip.specs.declared.Refusal.{Refusal}
use Rattle.slip.specs.declared.Refusal.TheVariants.{Truncated, BadCount, Surplus}
use Rattle.slip.specs.declared.Slip.{Slip}

abbrev pub slip : Refusal → ℕ → Slip
slip r p = record { refusal = r; place = p }

-- a value and the place after it, or the slip that the file is refused by
abbrev pub Parsed : Type 0 → Type 0
Parsed A = Result (A × ℕ) Slip

-- one reading after another: the first slip counts
infixr 20 ◌⨟◌
abbrev pub ◌⨟◌ : {A B : Type 0} → Parsed A → (A → ℕ → Parsed B) → Parsed B
Ok x ⨟ f = f x.0 x.1
Err e ⨟ f = Err e

-- the value v of a field of n bytes at p
abbrev pub field : {A : Type 0} → List ℕ → ℕ → ℕ → A → Parsed A
field s p n v = cond (nat_le (p + n) (length s)) (Ok (v, p + n)) (Err (slip Truncated p))

abbrev pub chunk_at : ℕ → List ℕ → ℕ → Parsed (List ℕ)
chunk_at n s p = field s p n (take n (drop p s))

abbrev pub byte_at : List ℕ → ℕ → Parsed ℕ
byte_at s p = field s p 1 (slice_index s p)

abbrev pub word_at : List ℕ → ℕ → Parsed ℕ
word_at s p = field s p 2 (256 * slice_index s p + slice_index s (p + 1))

abbrev pub long_at : List ℕ → ℕ → Parsed ℕ
long_at s p =
    field s p 4 (16777216 * slice_index s p + 65536 * slice_index s (p + 1) + 256 * slice_index s (p + 2) + slice_index s (p + 3))

-- two's complement
abbrev pub signed : ℕ → ℤ
signed n = cond (nat_lt n 32768) (pos n) (negsuc (65535 - n))

abbrev pub signed_at : List ℕ → ℕ → Parsed ℤ
signed_at s p = word_at s p ⨟ λ n q. Ok (signed n, q)

-- a value at p that has to pass a test, with the next place q
abbrev pub kept : {A : Type 0} → Bool → Refusal → ℕ → A → ℕ → Parsed A
kept ok r p v q = cond ok (Ok (v, q)) (Err (slip r p))

-- a number of records
abbrev pub count_at : ℕ → ℕ → List ℕ → ℕ → Parsed ℕ
count_at least most s p = word_at s p ⨟ λ n q. kept (nat_le least n && nat_le n most) BadCount p n q

-- no byte follows
abbrev pub close_at : List ℕ → ℕ → Parsed (Unit {0})
close_at s p = kept (p == length s) Surplus p tt p

-- n readings in a row, number k (from 0) by d k; each is put to what came before it
unfoldable pub many : {A C : Type 0} → (C → ℕ → A → C) → (ℕ → List ℕ → ℕ → Parsed A) → C → ℕ → List ℕ → ℕ → Parsed C
many put d es zero s p = Ok (es, p)
many put d es (suc n) s p = many put d es n s p ⨟ λ xs q. d n s q ⨟ λ x r. Ok (put xs n x, r)

-- n records in a row, each as d says
abbrev pub records_at : {A : Type 0} → (List ℕ → ℕ → Parsed A) → ℕ → List ℕ → ℕ → Parsed (List A)
records_at d n s p = many (λ xs _ x. xs ++ x ∷ []) (λ _. d) [] n s p

-- the code's result r, with the reader at q afterwards, is what d says
abbrev pub Reads : {A : Type 0} → Result A Slip → ℕ → Parsed A → Type 0
Reads (Ok v) q d = d ≡ Ok (v, q)
Reads (Err e) q d = d ≡ Err e

abbrev pub value : {A : Type 0} → Parsed A → Result A Slip
value (Ok x) = Ok x.0
value (Err e) = Err e

-- a file has at most 60,000 bytes; this is tested first
abbrev pub sized : {A : Type 0} → List ℕ → Parsed A → Result A Slip
sized s d = cond (nat_le (length s) 60000) (value d) (Err (slip Surplus 60000))
