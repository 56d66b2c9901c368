use Rattle.std.proofs.Common.{ℕ, List, [], ◌++◌, get_or, take, sym, ap, ◌∙◌}
use Rattle.std.proofs.lemmas.List.{flat_map_more, take_all, take_more}
use Rattle.lines.specs.declared.Line.TheVariants.{Cells}
use Rattle.lines.specs.Lines.{line_text, lines_text}
use Rattle.lines.proofs.text_of_all.Goals as goal

pub loop-line-preserved : goal.loop-line-preserved
loop-line-preserved c =
    let ls = c.args.lines.now in
    let i = c.loop-line.line-index in
    let at = get_or ls i (Cells 0) in
    c.in_ok-write.ensures.bytes
    ∙ ap (λ (bs : List ℕ). bs ++ line_text at) c.loop-line.invariant
    ∙ flat_map_more line_text [] (take i ls) at
    ∙ ap lines_text (sym (take_more ls i (Cells 0) c.loop-line-test.true))

pub returns : goal.returns
returns c = c.loop-line.invariant ∙ ap lines_text (take_all _ _ c.loop-line-test.false)
