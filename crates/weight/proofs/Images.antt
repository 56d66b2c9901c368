-- A map of values that keeps order, sum and neutral carries closed forms over. Signs are such an image of limits.
use Rattle.std.proofs.Common.{◌≡◌, ℕ, Bool, pos, refl, ◌∙◌, subst}
use Rattle.weight.specs.Weights.{Laws, Way, step, join, ClosedForm, Falling}
use Rattle.weight.specs.Limits.{limit_leb, limit_plus, up_to}
use Rattle.weight.specs.Signs.{sign_leb, sign_plus, sign_limit}
use Rattle.weight.specs.declared.order_sign.OrderSign.{OrderSign}
use Rattle.weight.specs.declared.order_sign.OrderSign.TheVariants.{AtMost}
use Rattle.weight.specs.Limited.{limit_laws, sign_leb_is, sign_plus_is}
use Rattle.weight.proofs.Passes.{below_way, falling}

module _ {V U : Type 0} {lebV : V → V → Bool} {plusV : V → V → V} {neutralV : V} {lebU : U → U → Bool} {plusU : U → U → U} {neutralU unboundedU hopelessU : U} (laws : Laws lebU plusU neutralU unboundedU hopelessU) (f : V → U) (f_leb : (x y : V) → lebU (f x) (f y) ≡ lebV x y) (f_plus : (x y : V) → plusU (f x) (f y) ≡ f (plusV x y)) (f_neutral : f neutralV ≡ neutralU) where
  pub image_way : (d : ℕ → ℕ → V) {i j : ℕ} {x : V} → Way plusV d i j x → Way plusU (λ a b. f (d a b)) i j (f x)
  image_way d (step i j hi hj) = step i j hi hj
  image_way d (join i k j x y hk a b) = subst (λ z. Way plusU (λ a b. f (d a b)) i j z) (f_plus x y) (join i k j (f x) (f y) hk (image_way d a) (image_way d b))

  pub image_closed_form : (old new : ℕ → ℕ → V) → ClosedForm lebV plusV neutralV old new → ClosedForm lebU plusU neutralU (λ i j. f (old i j)) (λ i j. f (new i j))
  image_closed_form old new form =
      record {
        closed = λ i k j hi hk hj. rw (f_plus (new i k) (new k j)) (f_leb _ _ ∙ form.closed i k j hi hk hj);
        sound = λ i hi. rw (← f_neutral) (f_leb _ _ ∙ form.sound i hi);
        beneath = λ i j hi hj. f_leb _ _ ∙ form.beneath i j hi hj;
        ways = λ i j hi hj. image_way old (form.ways i j hi hj);
        greatest = λ e closed beneath i j hi hj. below_way laws (λ a b. f (old a b)) e closed beneath hi hj (image_way old (form.ways i j hi hj));
      }

  pub image_falling : (d : ℕ → ℕ → V) → Falling lebV plusV neutralV d → Falling lebU plusU neutralU (λ i j. f (d i j))
  image_falling d fall =
      falling laws (λ i j. f (d i j)) fall.place (f fall.weight) fall.inside (image_way d fall.way) (rw (← f_neutral) (f_leb _ _ ∙ fall.less))

pub sign_closed_form : (old new : ℕ → ℕ → OrderSign) → ClosedForm sign_leb sign_plus AtMost old new → ClosedForm limit_leb limit_plus (up_to (pos 0)) (λ i j. sign_limit (old i j)) (λ i j. sign_limit (new i j))
sign_closed_form = image_closed_form limit_laws sign_limit sign_leb_is sign_plus_is refl

pub sign_falling : (d : ℕ → ℕ → OrderSign) → Falling sign_leb sign_plus AtMost d → Falling limit_leb limit_plus (up_to (pos 0)) (λ i j. sign_limit (d i j))
sign_falling = image_falling limit_laws sign_limit sign_leb_is sign_plus_is refl
