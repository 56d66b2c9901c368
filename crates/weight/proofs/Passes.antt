-- Why the passes close a matrix: mathematics on functions of two places, from the laws of weights alone.
use Rattle.std.proofs.Common.{◌≡◌, ℕ, suc, ◌<◌, Bool, true, false, cond, ⊎_elim, arith}
use Rattle.std.proofs.lemmas.Bool.{both_ways, cases_Bool, cases_lt}
use Rattle.weight.specs.Weights.{Laws, Closed, Sound, Beneath, Way, step, join, ClosedForm, Falling}
use Rattle.weight.specs.Closing.{lesser, passed}

-- after the passes below k: no weight exceeds a sum via a place below k, and each is a sum along a way of the old ones
pub record Sofar {V : Type 0} (leb : V → V → Bool) (plus : V → V → V) (old d : ℕ → ℕ → V) (k : ℕ) : Type 0 where
  pub via : (c i j : ℕ) → c < k → i < 7 → j < 7 → leb (d i j) (plus (d i c) (d c j)) ≡ true
  pub beneath : Beneath leb d old
  pub ways : (i j : ℕ) → i < 7 → j < 7 → Way plus old i j (d i j)

pub lesser_is : {V : Type 0} (leb : V → V → Bool) (P : V → Type 0) (x y : V) → P x → P y → P (lesser leb x y)
lesser_is leb P x y a b = elim (leb x y) as (λ t. P (cond t x y)) [ true ↦ a | false ↦ b ]

module _ {V : Type 0} {leb : V → V → Bool} {plus : V → V → V} {neutral unbounded hopeless : V} (laws : Laws leb plus neutral unbounded hopeless) where
  pub lesser_first : (x y : V) → leb (lesser leb x y) x ≡ true
  lesser_first x y =
      ⊎_elim
      (λ t. rw t (laws.self x))
      (λ f. rw f (⊎_elim (λ t. absurd (both_ways _ f t)) (λ t. t) (laws.total x y)))
      (cases_Bool (leb x y))

  pub lesser_second : (x y : V) → leb (lesser leb x y) y ≡ true
  lesser_second x y = ⊎_elim (λ t. rw t t) (λ f. rw f (laws.self y)) (cases_Bool (leb x y))

  -- a sum exceeds what a lesser sum exceeds
  under_left : (x u v w : V) → leb u v ≡ true → leb x (plus u w) ≡ true → leb x (plus v w) ≡ true
  under_left x u v w h b = laws.trans _ _ _ b (laws.keeps _ _ _ _ h (laws.self w))

  under_right : (x u v w : V) → leb v w ≡ true → leb x (plus u v) ≡ true → leb x (plus u w) ≡ true
  under_right x u v w h b = laws.trans _ _ _ b (laws.keeps _ _ _ _ (laws.self u) h)

  module _ (d : ℕ → ℕ → V) (k : ℕ) (sound : leb neutral (d k k) ≡ true) where
    -- the pass k leaves row k and column k
    pub row_stays : (j : ℕ) → leb (d k j) (plus (d k k) (d k j)) ≡ true
    row_stays j = rw (laws.left (d k j)) at (laws.keeps _ _ _ _ sound (laws.self (d k j)))

    pub column_stays : (i : ℕ) → leb (d i k) (plus (d i k) (d k k)) ≡ true
    column_stays i = rw (laws.right (d i k)) at (laws.keeps _ _ _ _ (laws.self (d i k)) sound)

  module _ (old d e : ℕ → ℕ → V) (k : ℕ) (here : k < 7) (sound : leb neutral (d k k) ≡ true) (so : Sofar leb plus old d k) (new : (i j : ℕ) → i < 7 → j < 7 → e i j ≡ passed leb plus d k i j) where
    under_old : (i j : ℕ) → i < 7 → j < 7 → leb (e i j) (d i j) ≡ true
    under_old i j hi hj = rw (new i j hi hj) (lesser_first _ _)

    under_way : (i j : ℕ) → i < 7 → j < 7 → leb (e i j) (plus (d i k) (d k j)) ≡ true
    under_way i j hi hj = rw (new i j hi hj) (lesser_second _ _)

    -- via a place below k: each of the two weights is an old one or goes via k
    via_before : (c i j : ℕ) → c < k → i < 7 → j < 7 → leb (e i j) (plus (e i c) (e c j)) ≡ true
    via_before c i j hc hi hj =
        let c7 : c < 7 = omega arith in
        let way = under_way i j hi hj in
        let left = so.via c i k hc hi here in
        let right = so.via c k j hc here hj in
        let around = laws.trans _ _ _ sound (so.via c k k hc here here) in
        let through : leb (d k j) (plus (plus (d k c) (d c k)) (d k j)) ≡ true = rw (laws.left (d k j)) at (laws.keeps _ _ _ _ around (laws.self (d k j))) in
        rw (new i c hi c7, new c j c7 hj)
        (lesser_is leb (λ a. leb (e i j) (plus a (passed leb plus d k c j)) ≡ true) (d i c) (plus (d i k) (d k c))
        (lesser_is leb (λ b. leb (e i j) (plus (d i c) b) ≡ true) (d c j) (plus (d c k) (d k j))
        (laws.trans _ _ _ (under_old i j hi hj) (so.via c i j hc hi hj))
        (rw (laws.assoc (d i c) (d c k) (d k j)) at (under_left _ _ _ (d k j) left way)))
        (lesser_is leb (λ b. leb (e i j) (plus (plus (d i k) (d k c)) b) ≡ true) (d c j) (plus (d c k) (d k j))
        (rw (laws.assoc (d i k) (d k c) (d c j)) (under_right _ (d i k) _ _ right way))
        (rw (laws.assoc (d i k) (d k c) (plus (d c k) (d k j)), ← laws.assoc (d k c) (d c k) (d k j))
        (under_right _ (d i k) _ _ through way))))

    via_here : (i j : ℕ) → i < 7 → j < 7 → leb (e i j) (plus (e i k) (e k j)) ≡ true
    via_here i j hi hj =
        rw (new i k hi here, new k j here hj)
        (laws.trans _ _ _ (under_way i j hi hj)
        (laws.keeps _ _ _ _
        (lesser_is leb (λ x. leb (d i k) x ≡ true) (d i k) (plus (d i k) (d k k)) (laws.self (d i k)) (column_stays d k sound i))
        (lesser_is leb (λ x. leb (d k j) x ≡ true) (d k j) (plus (d k k) (d k j)) (laws.self (d k j)) (row_stays d k sound j))))

    pub sofar_pass : Sofar leb plus old e (suc k)
    sofar_pass =
        record {
          via = λ c i j hc hi hj. ⊎_elim (λ h. via_before c i j h hi hj) (λ h. let same : c ≡ k = omega arith in rw same (via_here i j hi hj)) (cases_lt c k);
          beneath = λ i j hi hj. laws.trans _ _ _ (under_old i j hi hj) (so.beneath i j hi hj);
          ways =
              λ i j hi hj.
              rw (new i j hi hj)
              (lesser_is leb (Way plus old i j) (d i j) (plus (d i k) (d k j)) (so.ways i j hi hj)
              (join i k j (d i k) (d k j) here (so.ways i k hi here) (so.ways k j here hj)));
        }

  pub sofar_start : (d : ℕ → ℕ → V) → Sofar leb plus d d 0
  sofar_start d = record { via = λ c i j hc hi hj. absurd (omega arith); beneath = λ i j hi hj. laws.self (d i j); ways = λ i j hi hj. step i j hi hj }

  -- a closed matrix at or below d is at or below each sum along a way of d
  pub below_way : (d e : ℕ → ℕ → V) → Closed leb plus e → Beneath leb e d → {i j : ℕ} {x : V} → i < 7 → j < 7 → Way plus d i j x → leb (e i j) x ≡ true
  below_way d e closed beneath hi hj (step i j h g) = beneath i j h g
  below_way d e closed beneath hi hj (join i k j x y hk a b) =
      laws.trans _ _ _ (closed i k j hi hk hj) (laws.keeps _ _ _ _ (below_way d e closed beneath hi hk a) (below_way d e closed beneath hk hj b))

  pub closed_form_is : (old d : ℕ → ℕ → V) → Sofar leb plus old d 7 → Sound leb neutral d → ClosedForm leb plus neutral old d
  closed_form_is old d so sound =
      record {
        closed = λ i k j hi hk hj. so.via k i j hk hi hj;
        sound = sound;
        beneath = so.beneath;
        ways = so.ways;
        greatest = λ e closed beneath i j hi hj. below_way old e closed beneath hi hj (so.ways i j hi hj);
      }

  -- the closed form is the only one
  pub closed_one : (old d e : ℕ → ℕ → V) → ClosedForm leb plus neutral old d → ClosedForm leb plus neutral old e → (i j : ℕ) → i < 7 → j < 7 → d i j ≡ e i j
  closed_one old d e a b i j hi hj = laws.anti _ _ (b.greatest d a.closed a.beneath i j hi hj) (a.greatest e b.closed b.beneath i j hi hj)

  pub falling : (d : ℕ → ℕ → V) (c : ℕ) (x : V) → c < 7 → Way plus d c c x → leb neutral x ≡ false → Falling leb plus neutral d
  falling d c x hc way less =
      record {
        place = c;
        inside = hc;
        weight = x;
        way = way;
        less = less;
        hopeless = λ e closed sound beneath. both_ways _ less (laws.trans _ _ _ (sound c hc) (below_way d e closed beneath hc hc way));
      }
