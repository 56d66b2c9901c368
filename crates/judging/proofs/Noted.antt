-- Lines noted one after another.
use Rattle.std.proofs.Common.{◌≡◌, ℕ, List, [], ◌∷◌, ◌++◌, length, Ok, Err, Option, Result, sym, ap, ◌∙◌, subst}
use Rattle.std.proofs.lemmas.List.{append_assoc}
use Rattle.slip.specs.declared.Slip.{Slip}
use Rattle.clocks.specs.declared.Gap.{Gap}
use Rattle.wire.specs.declared.fault.Fault.{Fault}
use Rattle.wire.specs.declared.fault.Fault.TheVariants.{Refused as Turned, Memory}
use Rattle.model.specs.Plans.{Plan}
use Rattle.model.specs.Read.{read_plan}
use Rattle.clockset.specs.Calls.{Calls, ◌⨾◌}
use Rattle.lines.specs.declared.Line.{Line}
use Rattle.lines.specs.declared.Line.TheVariants.{Cells}
use Rattle.lines.specs.Notes.{Notes}
use Rattle.judging.specs.Judge.{lodge_all, lodged_lines, plan_lines, judge_lines, cover_entries, begun}

-- the lines x, and after them those of a call that notes y
noted_more : (old mid new x y : List Line) (r : Result (Unit {0}) Fault) → mid ≡ old ++ x → Notes mid r new y → Notes old r new (x ++ y)
noted_more old mid new x y (Ok u) first rest = rest ∙ ap (λ (l : List Line). l ++ y) first ∙ append_assoc old x y
noted_more old mid new x y (Err (Turned e)) first rest = rest ∙ ap (λ (l : List Line). l ++ y) first ∙ append_assoc old x y
noted_more old mid new x y (Err Memory) first rest = tt

-- the report on a model and a cover that were read
pub judged : {S : Type 0} (k : Calls S) (model : List ℕ) (cover trail : Option (List ℕ)) (p : Plan) (es : List (ℕ × List Gap)) (old mid new : List Line) (r : Result (Unit {0}) Fault) → read_plan model ≡ Ok p → cover_entries cover ≡ Ok es → mid ≡ old ++ Cells (length p.cells) ∷ [] → Notes mid r new (lodged_lines k p trail (lodge_all k p es (begun k))) → Notes old r new (judge_lines k model cover trail)
judged k model cover trail p es old mid new r reads given first rest =
    let cells = Cells (length p.cells) in
    let same =
    ap (λ (d : Result (List (ℕ × List Gap)) Slip). cells ∷ lodged_lines k p trail (d ⨾ λ xs. lodge_all k p xs (begun k))) (sym given)
    ∙ ap (plan_lines k cover trail) (sym reads) in
    subst (λ (l : List Line). Notes old r new l) same (noted_more old mid new (cells ∷ []) (lodged_lines k p trail (lodge_all k p es (begun k))) r first rest)
