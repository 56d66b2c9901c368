-- A table of steps that takes up a list of steps part by part.
use Rattle.std.proofs.Common.{◌≡◌, ◌≤◌, List, [], ◌∷◌, ◌++◌, length, take, ap, ◌∙◌, arith}
use Rattle.std.proofs.lemmas.List.{length-take}
use Rattle.model.specs.declared.outgoing.Move.{Move}
use Rattle.model.specs.declared.outgoing.Move.TheVariants.{Wait}
use Rattle.model.specs.declared.outgoing.Moves.{Moves}
use Rattle.model.specs.Taken.{taken, capped}
use Rattle.model.proofs.Capped.{capped_start, capped_join, capped_more}

pub table_start : (m : Moves) → taken m ≡ capped (taken m ++ [])
unfolding capped
table_start m =
    let p = length-take m.count m.list in
    let le : length (taken m) ≤ 16 = omega (arith, m.most) in
    capped_start 16 (taken m) le

-- one more part
pub table_more : (start now next : Moves) (so_far more : List Move) → taken now ≡ capped (taken start ++ so_far) → taken next ≡ capped (taken now ++ more) → taken next ≡ capped (taken start ++ (so_far ++ more))
unfolding capped
table_more start now next so_far more h e = capped_more 16 (taken start) so_far more (taken now) (taken next) h e

-- wait, then two more parts
pub table_whole : (one two three : Moves) (fs ss : List Move) → taken one ≡ Wait ∷ [] → taken two ≡ capped (taken one ++ fs) → taken three ≡ capped (taken two ++ ss) → taken three ≡ capped (Wait ∷ (fs ++ ss))
unfolding capped
table_whole one two three fs ss e₁ e₂ e₃ =
    let two_is : taken two ≡ take 16 (Wait ∷ fs) = e₂ ∙ ap (λ (l : List Move). take 16 (l ++ fs)) e₁ in
    e₃ ∙ ap (λ (l : List Move). take 16 (l ++ ss)) two_is ∙ capped_join 16 (Wait ∷ fs) ss
