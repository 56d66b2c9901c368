-- Limits with the constant 0 stay such: in sums, so in closed forms, and in every move.
use Rattle.std.proofs.Common.{ℕ, Bool, not, ◌&&◌, ◌||◌, eqb, pos, ◌+ℤ◌, refl, ap₂}
use Rattle.std.proofs.lemmas.Bool.{cond_both}
use Rattle.weight.specs.Limits.{Limit, under, up_to, free, limit_leb, limit_plus}
use Rattle.weight.specs.Weights.{Way, step, join, ClosedForm}
use Rattle.zone_theory.specs.Matrices.{tighter, tightened, cut_limits, home, reset_limits, delay_limits, zero_limits, all_limits, empty_limits, Level, AllLevel}
use Rattle.zone_theory.proofs.Resets.{home_in}

pub level_plus : (a b : Limit) → Level a → Level b → Level (limit_plus a b)
level_plus (under x) (under y) p q = ap₂ ◌+ℤ◌ p q
level_plus (under x) (up_to y) p q = ap₂ ◌+ℤ◌ p q
level_plus (under x) free p q = tt
level_plus (up_to x) (under y) p q = ap₂ ◌+ℤ◌ p q
level_plus (up_to x) (up_to y) p q = ap₂ ◌+ℤ◌ p q
level_plus (up_to x) free p q = tt
level_plus free (under y) p q = tt
level_plus free (up_to y) p q = tt
level_plus free free p q = tt

level_way : (d : ℕ → ℕ → Limit) → AllLevel d → {i j : ℕ} {x : Limit} → Way limit_plus d i j x → Level x
level_way d all (step i j hi hj) = all i j hi hj
level_way d all (join i k j x y hk p q) = level_plus x y (level_way d all p) (level_way d all q)

pub level_closing : (old new : ℕ → ℕ → Limit) → ClosedForm limit_leb limit_plus (up_to (pos 0)) old new → AllLevel old → AllLevel new
level_closing old new form all i j hi hj = level_way old all (form.ways i j hi hj)

level_tighter : (a b : Limit) → Level a → Level b → Level (tighter a b)
level_tighter a b p q = cond_both (limit_leb a b) a b Level (λ e. p) (λ e. q)

pub level_tightened : (d : ℕ → ℕ → Limit) → AllLevel d → AllLevel (tightened d)
level_tightened d all i j hi hj =
    cond_both (eqb i 0 || eqb i j) (tighter (d i j) (up_to (pos 0))) (d i j) Level (λ e. level_tighter (d i j) (up_to (pos 0)) (all i j hi hj) refl) (λ e. all i j hi hj)

pub level_cut : (d : ℕ → ℕ → Limit) (i j : ℕ) (b : Limit) → AllLevel d → Level b → AllLevel (cut_limits d i j b)
level_cut d i j b all l p q hp hq =
    cond_both (eqb p i && eqb q j) (tighter (d p q) b) (d p q) Level (λ e. level_tighter (d p q) b (all p q hp hq) l) (λ e. all p q hp hq)

pub level_reset : (set : ℕ → Bool) (d : ℕ → ℕ → Limit) → AllLevel d → AllLevel (reset_limits set d)
level_reset set d all i j hi hj = all (home set i) (home set j) (home_in set i hi) (home_in set j hj)

pub level_delay : (d : ℕ → ℕ → Limit) → AllLevel d → AllLevel (delay_limits d)
level_delay d all i j hi hj = cond_both (not (eqb i 0) && eqb j 0) free (d i j) Level (λ e. tt) (λ e. all i j hi hj)

pub level_zero : AllLevel zero_limits
level_zero i j hi hj = refl

pub level_all : AllLevel all_limits
level_all i j hi hj = cond_both (eqb i 0 || eqb i j) (up_to (pos 0)) free Level (λ e. refl) (λ e. tt)

pub level_empty : AllLevel empty_limits
level_empty i j hi hj = refl
