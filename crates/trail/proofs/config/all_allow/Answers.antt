use Rattle.std.proofs.Common.{◌≡◌, ℕ, Bool, length, ap, ◌∙◌, rules, arith}
use Rattle.std.specs.List.{zip}
use Rattle.std.proofs.lemmas.Iterator.{YieldsList-from_slice, YieldsList-from_zip}
use Rattle.std.proofs.lemmas.Iterator.Search.{all_from_yields_List}
use Rattle.std.proofs.lemmas.Slice.Zip.{get_or-zip, length-zip}
use Rattle.wire.specs.declared.cell.Ends.{Ends}
use Rattle.model.specs.Cells.{unbounded}
use Rattle.model.proofs.Below.{all_same}
use Rattle.model.proofs.Ranges.{list_all_whole}
use Rattle.trail.specs.Tests.{allowed}
use Rattle.trail.proofs.config.all_allow.Goals as goal

pub returns : goal.returns
returns c =
    let ends = c.args.ends.now in
    let counts = c.args.counts.now in
    let test : Ends × ℕ → Bool = λ p. allowed p.0 c.args.scale p.1 in
    let long : length (zip c.args.ends.now c.args.counts.now) ≡ 6 = omega (arith, length-zip ends counts) in
    all_from_yields_List test c.all.new.self _ c.all.result c.all.ensures.ran (YieldsList-from_zip (YieldsList-from_slice ends cc) (YieldsList-from_slice counts cc)) (λ x b q h. search rules)
    ∙ list_all_whole 6 test (zip ends counts) (unbounded, 0) long
    ∙ all_same 6 _ _ (λ i lt. ap test (get_or-zip ends counts i (unbounded, 0) (omega arith) (omega arith)))
