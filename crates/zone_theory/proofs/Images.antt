-- Closed forms and falling ways carry over to a matrix with the same entries.
use Rattle.std.proofs.Common.{◌≡◌, ℕ, ◌<◌, Bool, true, sym, subst}
use Rattle.weight.proofs.Passes.{below_way, falling}
use Rattle.weight.specs.Weights.{Laws, Closed, Sound, Beneath, Way, step, join, ClosedForm, Falling}

-- ways are all that a closed form needs
module _ {V : Type 0} {leb : V → V → Bool} {plus : V → V → V} {neutral unbounded hopeless : V} (laws : Laws leb plus neutral unbounded hopeless) where
  pub form_by_ways : (old new : ℕ → ℕ → V) → Closed leb plus new → Sound leb neutral new → Beneath leb new old
      → ((i j : ℕ) → i < 7 → j < 7 → Way plus old i j (new i j)) → ClosedForm leb plus neutral old new
  form_by_ways old new closed sound beneath ways =
      record {
        closed = closed;
        sound = sound;
        beneath = beneath;
        ways = ways;
        greatest = λ e c b i j hi hj. below_way laws old e c b hi hj (ways i j hi hj);
      }

-- a matrix with the same entries on the seven places
module _ {V : Type 0} {leb : V → V → Bool} {plus : V → V → V} {neutral unbounded hopeless : V} (laws : Laws leb plus neutral unbounded hopeless)
    (d e : ℕ → ℕ → V) (same : (i j : ℕ) → i < 7 → j < 7 → d i j ≡ e i j) where
  same_way : {i j : ℕ} {x : V} → Way plus d i j x → Way plus e i j x
  same_way (step i j hi hj) = subst (Way plus e i j) (sym (same i j hi hj)) (step i j hi hj)
  same_way (join i k j x y hk p q) = join i k j x y hk (same_way p) (same_way q)

  pub same_closed_form : (new : ℕ → ℕ → V) → ClosedForm leb plus neutral d new → ClosedForm leb plus neutral e new
  same_closed_form new form =
      form_by_ways laws e new form.closed form.sound (λ i j hi hj. subst (λ z. leb (new i j) z ≡ true) (same i j hi hj) (form.beneath i j hi hj))
      (λ i j hi hj. same_way (form.ways i j hi hj))

  pub same_falling : Falling leb plus neutral d → Falling leb plus neutral e
  same_falling fall = falling laws e fall.place fall.weight fall.inside (same_way fall.way) fall.less
