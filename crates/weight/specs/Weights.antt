-- Weights, and what a closed matrix of weights is. Everything here is about functions on seven places (clocks 0 to 6);
-- nothing knows how a weight is stored.
use Rattle.std.specs.Prelude.{◌≡◌, ℕ, ◌<◌, Bool, true, false, ◌⊎◌}

-- an associative sum that keeps a total order, with a neutral and an unbounded weight, and a weight below neutral
pub record Laws {V : Type 0} (leb : V → V → Bool) (plus : V → V → V) (neutral unbounded hopeless : V) : Type 0 where
  pub self : (x : V) → leb x x ≡ true
  pub trans : (x y z : V) → leb x y ≡ true → leb y z ≡ true → leb x z ≡ true
  pub anti : (x y : V) → leb x y ≡ true → leb y x ≡ true → x ≡ y
  pub total : (x y : V) → (leb x y ≡ true) ⊎ (leb y x ≡ true)
  pub assoc : (x y z : V) → plus (plus x y) z ≡ plus x (plus y z)
  pub left : (x : V) → plus neutral x ≡ x
  pub right : (x : V) → plus x neutral ≡ x
  pub keeps : (x y u v : V) → leb x y ≡ true → leb u v ≡ true → leb (plus x u) (plus y v) ≡ true
  pub top : (x : V) → leb x unbounded ≡ true
  pub lost : leb neutral hopeless ≡ false

-- no pair's weight exceeds the sum of two via a third place
abbrev pub Closed : {V : Type 0} → (V → V → Bool) → (V → V → V) → (ℕ → ℕ → V) → Type 0
Closed leb plus d = (i k j : ℕ) → i < 7 → k < 7 → j < 7 → leb (d i j) (plus (d i k) (d k j)) ≡ true

-- no place is below neutral against itself
abbrev pub Sound : {V : Type 0} → (V → V → Bool) → V → (ℕ → ℕ → V) → Type 0
Sound leb neutral d = (i : ℕ) → i < 7 → leb neutral (d i i) ≡ true

abbrev pub Beneath : {V : Type 0} → (V → V → Bool) → (ℕ → ℕ → V) → (ℕ → ℕ → V) → Type 0
Beneath leb low high = (i j : ℕ) → i < 7 → j < 7 → leb (low i j) (high i j) ≡ true

-- a weight that is a sum along a way from i to j
pub data Way {V : Type 0} (plus : V → V → V) (d : ℕ → ℕ → V) : ℕ → ℕ → V → Type 0 where
  step : (i j : ℕ) → i < 7 → j < 7 → Way plus d i j (d i j)
  join : (i k j : ℕ) (x y : V) → k < 7 → Way plus d i k x → Way plus d k j y → Way plus d i j (plus x y)

-- new is the closed form of old: the greatest closed matrix at or below it, made of sums along its ways
pub record ClosedForm {V : Type 0} (leb : V → V → Bool) (plus : V → V → V) (neutral : V) (old new : ℕ → ℕ → V) : Type 0 where
  pub closed : Closed leb plus new
  pub sound : Sound leb neutral new
  pub beneath : Beneath leb new old
  pub ways : (i j : ℕ) → i < 7 → j < 7 → Way plus old i j (new i j)
  pub greatest : (e : ℕ → ℕ → V) → Closed leb plus e → Beneath leb e old → Beneath leb e new

-- a way from a place to itself sums below neutral, so no closed matrix with a sound diagonal lies at or below d
pub record Falling {V : Type 0} (leb : V → V → Bool) (plus : V → V → V) (neutral : V) (d : ℕ → ℕ → V) : Type 0 where
  pub place : ℕ
  pub inside : place < 7
  pub weight : V
  pub way : Way plus d place place weight
  pub less : leb neutral weight ≡ false
  pub hopeless : (e : ℕ → ℕ → V) → Closed leb plus e → Sound leb neutral e → Beneath leb e d → ⊥
