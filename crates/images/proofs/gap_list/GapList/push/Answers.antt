use Rattle.std.proofs.Common.{◌++◌, take, sym, ap, ◌∙◌}
use Rattle.model.proofs.Capped.{put_more, put_full, capped_start}
use Rattle.images.specs.Gaps.{gathered, listed}
use Rattle.images.proofs.Gathered.{few_taken}
use Rattle.images.proofs.gap_list.GapList.push.Goals as goal

pub returns-then-n-lt12 : goal.returns-then-n-lt12
returns-then-n-lt12 c =
    put_more _ _ 12 _ c.args.self.now.long c.if-n-lt12.true ∙ ap (λ o. take 12 (gathered c.args.self.now ++ listed o)) (sym c.in-Some.is)

pub returns-else-n-lt12 : goal.returns-else-n-lt12
returns-else-n-lt12 c =
    put_full _ _ 12 _ c.args.self.now.long c.args.self.now.most c.if-n-lt12.false ∙ ap (λ o. take 12 (gathered c.args.self.now ++ listed o)) (sym c.in-Some.is)

pub returns-in_default : goal.returns-in_default
returns-in_default c =
    capped_start 12 (gathered c.args.self.now) (few_taken c.args.self.now) ∙ ap (λ o. take 12 (gathered c.args.self.now ++ listed o)) (sym c.in_default.is)
