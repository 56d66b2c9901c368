-- The theorems, put together.
use Rattle.std.proofs.Common.{◌≡◌, ℕ, ◌*◌, ◌<◌, ◌≤◌, Bool, ◌↔◌, List, length, sym, refl, subst, mul-le-mul, arith}
use Rattle.weight.specs.Limits.{Limit, limit_leb}
use Rattle.weight.specs.Weights.{Beneath, step}
use Rattle.zone_theory.specs.Exact.{Closes, Falls, ClosingExact, WithinExact, Canonical, GapExact, Reset, Delay, ResetExact, DelayExact, ZeroExact, AllExact, EmptyExact, ScaleFree, LevelsStay}
use Rattle.zone_theory.specs.Matrices.{tightened, cut_limits, reset_limits, delay_limits, zero_limits}
use Rattle.clocks.specs.Readings.{count_at, cleared, later}
use Rattle.zone_theory.specs.Readings.{Obeys, Holds, Fine, Readable, Vacant, Inside, Alike}
use Rattle.zone_theory.proofs.Counts.{times_one}
use Rattle.zone_theory.proofs.Found.{fine_sound, fine_reading, within_back, same_readings}
use Rattle.zone_theory.proofs.Kept.{beneath_meets, tightened_beneath, tightened_meets, closing_forth, closing_back, closing_fine, falling_none, fine_tight}
use Rattle.zone_theory.proofs.Images.{form_by_ways, same_closed_form}
use Rattle.weight.specs.Limited.{limit_laws}
use Rattle.zone_theory.proofs.Levels.{level_closing, level_tightened, level_reset, level_delay}
use Rattle.zone_theory.proofs.Moves.{times_holds, holds_times, cut_forth, cut_back, zero_fine, zero_back, zero_forth, all_fine, all_forth, empty_falls, empty_vacant}
use Rattle.zone_theory.proofs.Resets.{reset_fine, reset_forth, reset_back}
use Rattle.zone_theory.proofs.Delays.{delay_fine, delay_forth, delay_back}

-- any matrix has the readings of its closed form
module _ (d new : ℕ → ℕ → Limit) (form : Closes d new) where
  pub closes_forth : (s : ℕ) (v : List ℕ) → Holds d s v → Holds new s v
  closes_forth s v h = closing_forth (tightened d) new form s (count_at v) (tightened_meets d s (count_at v) refl h)

  pub closes_back : (s : ℕ) (v : List ℕ) → 1 ≤ s → Holds new s v → Holds d s v
  closes_back s v p h = beneath_meets (tightened d) d s (count_at v) p (tightened_beneath d) (closing_back (tightened d) new form s (count_at v) p h)

  pub closes_alike : Alike new d
  closes_alike s v p six = (closes_back s v p, closes_forth s v)

  pub closes_readable : Readable d
  closes_readable =
      let r = fine_reading new (closing_fine d new form) in
      (r.0, r.1, r.2, r.3, closes_back r.0 r.1 r.2 r.4)

  -- so what is exact of fine matrices is exact of any by its closed form
  pub closes_within : (e : ℕ → ℕ → Limit) → Beneath limit_leb new e ↔ Inside d e
  closes_within e = (
    λ b s v p six h. beneath_meets new e s (count_at v) p b (closes_forth s v h),
    λ all. within_back new e (closing_fine d new form) (λ s v p six h. all s v p six (closes_back s v p h)),
  )

  pub closes_reset : (set : ℕ → Bool) (s : ℕ) (v : List ℕ) → 1 ≤ s → length v ≡ 6 → Holds (reset_limits set new) s v ↔ Reset set d s v
  closes_reset set s v p six = (
    λ h.
        let r = reset_back set new s v six (closing_fine d new form) p h in
        (r.0, r.1, r.2, r.3, closes_back (r.0 * s) r.1 (mul-le-mul r.2 p) r.4, r.5),
    λ r. reset_forth set new s v six (r.0, r.1, r.2, r.3, closes_forth (r.0 * s) r.1 r.4, r.5),
  )

  pub closes_delay : (s : ℕ) (v : List ℕ) → 1 ≤ s → length v ≡ 6 → Holds (delay_limits new) s v ↔ Delay d s v
  closes_delay s v p six = (
    λ h.
        let r = delay_back new s v six (closing_fine d new form) p h in
        (r.0, r.1, r.2, r.3, r.4, closes_back (r.0 * s) r.2 (mul-le-mul r.3 p) r.5, r.6),
    λ r. delay_forth new s v six (r.0, r.1, r.2, r.3, r.4, closes_forth (r.0 * s) r.2 r.5, r.6),
  )

-- the closed form of one more limit
pub closes_gap : (d new : ℕ → ℕ → Limit) (i j : ℕ) (b : Limit) → i < 7 → j < 7 → Closes (cut_limits d i j b) new
    → (s : ℕ) (v : List ℕ) → 1 ≤ s → Holds new s v ↔ (Holds d s v × Obeys b s (count_at v i) (count_at v j))
closes_gap d new i j b hi hj form s v p = (
  λ h. cut_back d i j b s (count_at v) p hi hj (closes_back (cut_limits d i j b) new form s v p h),
  λ h. closes_forth (cut_limits d i j b) new form s v (cut_forth d i j b s (count_at v) h.0 h.1),
)

pub falls_vacant : (d : ℕ → ℕ → Limit) → Falls d → Vacant d
falls_vacant d fall s v p h = falling_none (tightened d) fall s (count_at v) p (tightened_meets d s (count_at v) refl h)

-- matrices with the same readings have the same closed form, and fall together
pub alike_closes : (d e newᵈ newᵉ : ℕ → ℕ → Limit) → Closes d newᵈ → Closes e newᵉ → Alike d e → (i j : ℕ) → i < 7 → j < 7 → newᵈ i j ≡ newᵉ i j
alike_closes d e newᵈ newᵉ p q same =
    same_readings newᵈ newᵉ (closing_fine d newᵈ p) (closing_fine e newᵉ q)
    (λ s v h six. (
      λ r. closes_forth e newᵉ q s v ((same s v h six).0 (closes_back d newᵈ p s v h r)),
      λ r. closes_forth d newᵈ p s v ((same s v h six).1 (closes_back e newᵉ q s v h r)),
    ))

pub alike_falls : (d e new : ℕ → ℕ → Limit) → Falls d → Closes e new → Alike d e → ⊥
alike_falls d e new fall form same =
    let r = closes_readable e new form in falls_vacant d fall r.0 r.1 r.2 ((same r.0 r.1 r.2 r.3).1 r.4)

-- and one more limit leaves them alike
pub alike_cut : (d e : ℕ → ℕ → Limit) (i j : ℕ) (b : Limit) → i < 7 → j < 7 → Alike d e → Alike (cut_limits d i j b) (cut_limits e i j b)
alike_cut d e i j b hi hj same s v p six = (
  λ h. let r = cut_back d i j b s (count_at v) p hi hj h in cut_forth e i j b s (count_at v) ((same s v p six).0 r.0) r.1,
  λ h. let r = cut_back e i j b s (count_at v) p hi hj h in cut_forth d i j b s (count_at v) ((same s v p six).1 r.0) r.1,
)

-- a fine matrix is its own closed form
pub fine_closes : (d : ℕ → ℕ → Limit) → Fine d → Closes d d
fine_closes d f =
    same_closed_form limit_laws d (tightened d) (fine_tight d f) d
    (form_by_ways limit_laws d d f.closed (fine_sound d f) (λ i j hi hj. limit_laws.self (d i j)) step)

-- a reading of now, put to 0 or let go on at its own scale
pub reset_now : (set : ℕ → Bool) (d : ℕ → ℕ → Limit) (s : ℕ) (v : List ℕ) → length v ≡ 6 → Holds d s v → Reset set d s (cleared set v)
reset_now set d s v six h =
    let one : 1 * s ≡ s = omega arith in (1, v, omega arith, six, rw one h, times_one (cleared set v))

pub delay_now : (d : ℕ → ℕ → Limit) (s n : ℕ) (v : List ℕ) → length v ≡ 6 → Holds d s v → Delay d s (later n v)
delay_now d s n v six h =
    let one : 1 * s ≡ s = omega arith in (1, n, v, omega arith, six, rw one h, times_one (later n v))

pub closing_exact : ClosingExact
closing_exact = (λ d new form. (closing_fine d new form, closes_alike d new form, closes_readable d new form), falls_vacant)

pub within_exact : WithinExact
within_exact d e f = (λ b s v p six h. beneath_meets d e s (count_at v) p b h, within_back d e f)

pub canonical : Canonical
canonical = same_readings

pub gap_exact : GapExact
gap_exact d i j b hi hj s v p = (cut_back d i j b s (count_at v) p hi hj, λ h. cut_forth d i j b s (count_at v) h.0 h.1)

pub reset_exact : ResetExact
reset_exact set d f =
    (reset_fine set d f, λ s v p six. (reset_back set d s v six f p, reset_forth set d s v six))

pub delay_exact : DelayExact
delay_exact d f =
    (delay_fine d f, λ s v p six. (delay_back d s v six f p, delay_forth d s v six))

pub zero_exact : ZeroExact
zero_exact = (zero_fine, λ s v six. (zero_back s v six, λ e. subst (Holds zero_limits s) (sym e) (zero_forth s)))

pub all_exact : AllExact
all_exact = (all_fine, all_forth)

pub empty_exact : EmptyExact
empty_exact = (empty_falls, empty_vacant)

pub scale_free : ScaleFree
scale_free d k s v p six = (times_holds d k s v p six, holds_times d k s v p six)

pub levels_stay : LevelsStay
levels_stay d all =
    (λ new form. level_closing (tightened d) new form (level_tightened d all), λ set. level_reset set d all, level_delay d all)
