use Rattle.std.proofs.Common.{◌<◌, length, ◌∙◌, arith}
use Rattle.std.proofs.lemmas.List.Edits.{map_over_more}
use Rattle.std.proofs.lemmas.List.{take_all, drop_all, append-nil, get_or_default}
use Rattle.docket_theory.specs.Docket.{forget}
use Rattle.docket.proofs.marks.forget_entry.Goals as goal

pub loop-mark-preserved : goal.loop-mark-preserved
loop-mark-preserved c =
    let lt : c.loop-mark.mark-index < length c.loop-mark.marks = omega arith in
    rw c.forgotten.ensures (map_over_more (forget c.args.number) c.args.marks.now c.loop-mark.marks _ _ c.loop-mark-test.true c.loop-mark.invariant (get_or_default _ _ _ _ lt))

pub returns : goal.returns
returns c =
    let le = c.loop-mark-test.false in
    c.loop-mark.invariant ∙ rw (take_all _ _ le, drop_all _ _ le) (append-nil _)
