use Rattle.std.proofs.Common.{◌≡◌, ℕ, List, [], ◌∷◌, ◌++◌, map, length, vec_items, Ok, sym, ap, ◌∙◌, arith}
use Rattle.std.specs.Option.{option_map}
use Rattle.wire.specs.declared.cover.CoverEntry.{CoverEntry}
use Rattle.wire.specs.Files.{entry_seen}
use Rattle.model.specs.Whole.{plan_of}
use Rattle.lines.specs.declared.Line.TheVariants.{Cells}
use Rattle.judging.proofs.Noted.{judged}
use Rattle.judging.proofs.note_judgement.Goals as goal

pub returns-clause-noted : goal.returns-clause-noted
returns-clause-noted g c =
    let cells = c.in_ok-model.model.cells in
    let count : c.len.result ≡ length (vec_items cells) = omega (arith, c.len.ensures, cells.ok.0) in
    judged g.S.ClockSet.calls c.args.model.now (option_map (λ b. b.now) c.args.cover) (option_map (λ b. b.now) c.args.trail)
    (plan_of c.in_ok-model.model) (map entry_seen c.deref.result.now) _ _ _ _
    c.in_ok-model.ensures.reads (c.in_ok-cover.ensures ∙ ap (λ (es : List CoverEntry). Ok (map entry_seen es)) (sym c.deref.ensures.value))
    (c.in_ok-note.ensures ∙ ap (λ (n : ℕ). c.args.report.now.lines.items ++ Cells n ∷ []) count) c.note_case.ensures
