use Rattle.std.proofs.Common.{map, rules, ◌∙◌, arith}
use Rattle.std.proofs.lemmas.List.{length-map}
use Rattle.std.proofs.lemmas.Iterator.{YieldsList-from_slice, YieldsList-from_zip}
use Rattle.std.proofs.lemmas.Iterator.Search.{all_from_yields_List}
use Rattle.zone_theory.proofs.Tables.{zip_read, zip_beneath}
use Rattle.matrix.proofs.is_beneath.Goals as goal
use borrow.Author.Tests.{tests}

pub returns : goal.returns
returns g c =
    let w = g.W.Weight in
    let low = c.args.low.now in
    let high = c.args.high.now in
    all_from_yields_List (λ p. w.leb (w.value p.0) (w.value p.1)) c.all.new.self _ c.all.result c.all.ensures.ran (YieldsList-from_zip (YieldsList-from_slice low cc) (YieldsList-from_slice high cc)) (λ x b q k. search (rules, tests))
    ∙ zip_read w.leb w.value w.value low high
    ∙ zip_beneath w.leb w.plus w.neutral w.unbounded w.hopeless (map w.value low) (map w.value high) (simp length-map (omega arith)) (simp length-map (omega arith))
