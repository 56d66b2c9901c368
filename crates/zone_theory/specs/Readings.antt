-- What it means that a reading of the six clocks obeys limits on differences, at a time scale.
--
-- A matrix of limits is a function d on pairs of clocks, and d i j limits the count of clock i less the count of clock j;
-- so d i 0 is the upper bound of clock i, and d 0 i its lower bound.
use Rattle.std.specs.Prelude.{◌≡◌, ℕ, ◌+◌, ◌*◌, ◌<◌, ◌≤◌, true, ◌↔◌, List, length, pos}
use borrow.Author.Differences.{up, down}
use Rattle.clocks.specs.Readings.{count_at}
use Rattle.weight.specs.Limits.{Limit, under, up_to, free, limit_leb, limit_plus}
use Rattle.weight.specs.Weights.{Closed}

-- x - y is below, or at most, the limit's constant times the scale. The constant is up z - down z, one of which is 0;
-- every term stands on the side where it is added, so naturals suffice.
abbrev pub Obeys : Limit → ℕ → ℕ → ℕ → Type 0
Obeys (under z) s x y = x + down z * s < y + up z * s
Obeys (up_to z) s x y = x + down z * s ≤ y + up z * s
Obeys free s x y = Unit {0}

-- the counts w of the seven clocks obey every limit
abbrev pub Meets : (ℕ → ℕ → Limit) → ℕ → (ℕ → ℕ) → Type 0
Meets d s w = (i j : ℕ) → i < 7 → j < 7 → Obeys (d i j) s (w i) (w j)

-- v is a reading of d at the scale s
abbrev pub Holds : (ℕ → ℕ → Limit) → ℕ → List ℕ → Type 0
Holds d s v = Meets d s (count_at v)

-- there is a reading at some scale
abbrev pub Readable : (ℕ → ℕ → Limit) → Type 0
Readable d = (s : ℕ) × (v : List ℕ) × (1 ≤ s) × (length v ≡ 6) × Holds d s v

-- there is none at any scale
abbrev pub Vacant : (ℕ → ℕ → Limit) → Type 0
Vacant d = (s : ℕ) (v : List ℕ) → 1 ≤ s → Holds d s v → ⊥

-- every reading of d, at every scale, is one of e
abbrev pub Inside : (ℕ → ℕ → Limit) → (ℕ → ℕ → Limit) → Type 0
Inside d e = (s : ℕ) (v : List ℕ) → 1 ≤ s → length v ≡ 6 → Holds d s v → Holds e s v

-- both have the same readings at every scale
abbrev pub Alike : (ℕ → ℕ → Limit) → (ℕ → ℕ → Limit) → Type 0
Alike d e = (s : ℕ) (v : List ℕ) → 1 ≤ s → length v ≡ 6 → Holds d s v ↔ Holds e s v

-- a closed matrix that holds some reading: each limit is as tight as the others make it, no clock differs from itself,
-- and no count is below zero
pub record Fine (d : ℕ → ℕ → Limit) : Type 0 where
  pub closed : Closed limit_leb limit_plus d
  pub flat : (i : ℕ) → i < 7 → d i i ≡ up_to (pos 0)
  pub rooted : (i : ℕ) → i < 7 → limit_leb (d 0 i) (up_to (pos 0)) ≡ true
