-- The counts of a reading, as a list and as a function of the clock.
use Rattle.std.proofs.Common.{◌≡◌, ℕ, zero, suc, ◌+◌, ◌*◌, ◌<◌, ◌≤◌, Bool, true, false, cond, List, [], ◌∷◌, length, sym, refl, ◌∙◌, mul-zero, arith}
use Rattle.std.proofs.lemmas.List.FromFn.{get_or-map-range_with_len}
use Rattle.std.proofs.lemmas.List.{ext_get_or, get_or-map, length-map}
use Rattle.clocks.specs.Readings.{count_at, listed, times, later, cleared}

-- the list of a function's counts has these counts, if clock 0 reads 0
pub count_listed : (w : ℕ → ℕ) (i : ℕ) → w 0 ≡ 0 → i < 7 → count_at (listed w) i ≡ w i
count_listed w zero e h = sym e
count_listed w (suc i) e h = get_or-map-range_with_len w 1 6 i (suc i) 0 (omega arith) (omega arith)

pub length_listed : (w : ℕ → ℕ) → length (listed w) ≡ 6
length_listed w = refl

-- six counts make the reading
pub same_counts : (u v : List ℕ) → length u ≡ 6 → length v ≡ 6 → ((i : ℕ) → i < 7 → count_at u i ≡ count_at v i) → u ≡ v
same_counts u v p q e = ext_get_or 0 u v (p ∙ sym q) (λ i h. e (suc i) (omega arith))

pub count_times : (k : ℕ) (v : List ℕ) (i : ℕ) → length v ≡ 6 → i < 7 → count_at (times k v) i ≡ k * count_at v i
count_times k v zero l h = sym (mul-zero k)
count_times k v (suc i) l h = get_or-map (λ (x : ℕ). k * x) v i 0 0 (omega arith)

pub count_later : (n : ℕ) (v : List ℕ) (i : ℕ) → length v ≡ 6 → 1 ≤ i → i < 7 → count_at (later n v) i ≡ count_at v i + n
count_later n v zero l p h = absurd (omega arith)
count_later n v (suc i) l p h = get_or-map (λ (x : ℕ). x + n) v i 0 0 (omega arith)

count_cleared_at : (t : Bool) → ◌≡◌ {A = ℕ} (cond t 0 0) 0
count_cleared_at true = refl
count_cleared_at false = refl

pub count_cleared : (set : ℕ → Bool) (v : List ℕ) (i : ℕ) → i < 7 → count_at (cleared set v) i ≡ cond (set i) 0 (count_at v i)
count_cleared set v i h = count_listed (λ j. cond (set j) 0 (count_at v j)) i (count_cleared_at (set 0)) h

pub times_one : (v : List ℕ) → times 1 v ≡ v
times_one [] = refl
times_one (x ∷ v) =
    let head : 1 * x ≡ x = omega arith in
    let rest = times_one v in
    cc

pub length_later : (n : ℕ) (v : List ℕ) → length (later n v) ≡ length v
length_later n v = length-map v (λ (x : ℕ). x + n)
