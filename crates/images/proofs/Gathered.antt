-- The gaps of a cell's ends, taken up one by one, cut as the cell's invariant does.
use Rattle.std.proofs.Common.{◌≡◌, ℕ, zero, suc, ◌+◌, ◌*◌, ◌≤◌, List, [], ◌∷◌, ◌++◌, length, get_or, take, Some, None, Ok, Err, Option, Result, refl, ap, ◌∙◌, add-one, arith}
use Rattle.std.specs.Option.{option_map}
use Rattle.std.proofs.lemmas.List.{append_assoc, length-append, length-take, take_all}
use Rattle.slip.specs.declared.Slip.{Slip}
use Rattle.clocks.specs.declared.Gap.{Gap}
use Rattle.wire.specs.declared.cell.Cell.{Cell}
use Rattle.wire.specs.declared.cell.End.{End}
use Rattle.wire.specs.declared.cell.Ends.{Ends}
use Rattle.model.specs.Cells.{unbounded}
use Rattle.model.proofs.Capped.{capped_join}
use Rattle.clockset.specs.Calls.{Calls, ◌⨾◌, cut_all}
use Rattle.clockset.proofs.Chained.{bind_assoc}
use Rattle.docket_theory.specs.Images.{low_gap, high_gap, cut_low, cut_high, cut_clock, cut_to}
use Rattle.images.specs.declared.gap_list.GapList.{GapList}
use Rattle.images.specs.Gaps.{gathered, listed, clock_gaps, gaps_to}

-- two gaps more, if they are there, in a table of so many places
pub two_more : (m : ℕ) (so_far low high now mid next : List Gap) → now ≡ take m so_far → mid ≡ take m (now ++ low) → next ≡ take m (mid ++ high) → next ≡ take m (so_far ++ (low ++ high))
two_more m so_far low high now mid next a b c =
    c
    ∙ ap (λ (l : List Gap). take m (l ++ high)) (b ∙ ap (λ (l : List Gap). take m (l ++ low)) a ∙ capped_join m so_far low)
    ∙ capped_join m (so_far ++ low) high
    ∙ ap (take m) (append_assoc so_far low high)

pub gaps_next : (c : Cell) (n : ℕ) → gaps_to c (n + 1) ≡ gaps_to c n ++ clock_gaps (n + 1) (get_or c.ends n unbounded)
unfolding gaps_to
gaps_next c n = rw add-one refl

listed_few : (o : Option Gap) → length (listed o) ≤ 1
listed_few None = omega arith
listed_few (Some g) = omega arith

few : (c : Cell) (n : ℕ) → length (gaps_to c n) ≤ 2 * n
unfolding gaps_to
few c zero = omega arith
few c (suc n) =
    let ends = get_or c.ends n unbounded in
    let low = listed (option_map (low_gap (suc n)) ends.low) in
    let high = listed (option_map (high_gap (suc n)) ends.high) in
    let a = length-append (gaps_to c n) (low ++ high) in
    let b = length-append low high in
    omega (arith, few c n, a, b, listed_few (option_map (low_gap (suc n)) ends.low), listed_few (option_map (high_gap (suc n)) ends.high))

-- none is left out
pub all_taken : (c : Cell) → take 12 (gaps_to c 6) ≡ gaps_to c 6
all_taken c = take_all 12 (gaps_to c 6) (omega (arith, few c 6))

-- what follows a call is the same if it is so at every set
after_same : {A B : Type 0} (r : Result A Slip) (f h : A → Result B Slip) → ((a : A) → f a ≡ h a) → (r ⨾ f) ≡ (r ⨾ h)
after_same (Ok a) f h same = same a
after_same (Err e) f h same = refl

module _ {S : Type 0} (k : Calls S) where
  cut_append : (xs ys : List Gap) (a : S) → cut_all k (xs ++ ys) a ≡ (cut_all k xs a ⨾ cut_all k ys)
  cut_append [] ys a = refl
  cut_append (x ∷ xs) ys a =
      after_same (k.gap a x) (cut_all k (xs ++ ys)) (λ b. cut_all k xs b ⨾ cut_all k ys) (cut_append xs ys) ∙ bind_assoc (k.gap a x) (cut_all k xs) (cut_all k ys)

  one_gap : (r : Result S Slip) → (r ⨾ λ b. Ok b) ≡ r
  one_gap (Ok b) = refl
  one_gap (Err e) = refl

  cut_low_is : (i : ℕ) (o : Option End) (a : S) → cut_all k (listed (option_map (low_gap i) o)) a ≡ cut_low k i o a
  cut_low_is i None a = refl
  cut_low_is i (Some e) a = one_gap (k.gap a (low_gap i e))

  cut_high_is : (i : ℕ) (o : Option End) (a : S) → cut_all k (listed (option_map (high_gap i) o)) a ≡ cut_high k i o a
  cut_high_is i None a = refl
  cut_high_is i (Some e) a = one_gap (k.gap a (high_gap i e))

  cut_clock_is : (i : ℕ) (ends : Ends) (a : S) → cut_all k (clock_gaps i ends) a ≡ cut_clock k i ends a
  cut_clock_is i ends a =
      cut_append (listed (option_map (low_gap i) ends.low)) (listed (option_map (high_gap i) ends.high)) a
      ∙ ap (λ (r : Result S Slip). r ⨾ cut_all k (listed (option_map (high_gap i) ends.high))) (cut_low_is i ends.low a)
      ∙ after_same (cut_low k i ends.low a) (cut_all k (listed (option_map (high_gap i) ends.high))) (cut_high k i ends.high) (cut_high_is i ends.high)

  pub cut_gaps : (c : Cell) (n : ℕ) (a : S) → cut_all k (gaps_to c n) a ≡ cut_to k c n a
  unfolding gaps_to cut_to
  cut_gaps c zero a = refl
  cut_gaps c (suc n) a =
      let ends = get_or c.ends n unbounded in
      cut_append (gaps_to c n) (clock_gaps (suc n) ends) a
      ∙ ap (λ (r : Result S Slip). r ⨾ cut_all k (clock_gaps (suc n) ends)) (cut_gaps c n a)
      ∙ after_same (cut_to k c n a) (cut_all k (clock_gaps (suc n) ends)) (cut_clock k (suc n) ends) (cut_clock_is (suc n) ends)

pub few_taken : (g : GapList) → length (gathered g) ≤ 12
few_taken g = omega (arith, length-take g.count g.list, g.most)
