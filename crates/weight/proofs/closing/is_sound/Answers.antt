use Rattle.std.proofs.Common.{map, refl, rules, ◌∙◌, arith}
use Rattle.std.proofs.lemmas.Iterator.{YieldsList-from_range}
use Rattle.std.proofs.lemmas.Iterator.Search.{all_from_yields_List}
use Rattle.weight.specs.Closing.{cell}
use Rattle.weight.proofs.Matrix.{sound_list}
use Rattle.weight.proofs.closing.is_sound.Goals as goal
use borrow.Author.Tests.{tests}

pub returns : goal.returns
returns g c =
    let w = g.W.Weight in
    let d = cell w.unbounded (map w.value c.args.m.now) in
    all_from_yields_List (λ k. w.leb w.neutral (d k k)) _ _ c.all.result c.all.ensures.ran (YieldsList-from_range 0 7 7 refl (omega arith)) (λ k b q h. search (rules, tests))
    ∙ sound_list w.leb w.neutral d 7
