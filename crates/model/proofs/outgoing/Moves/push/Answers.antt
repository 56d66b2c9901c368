use Rattle.model.specs.Taken.{capped}
use Rattle.model.proofs.Capped.{put_more, put_full}
use Rattle.model.proofs.outgoing.Moves.push.Goals as goal

pub returns-then-n-lt16 : goal.returns-then-n-lt16
unfolding capped
returns-then-n-lt16 c = put_more _ _ 16 _ c.args.self.now.long c.if-n-lt16.true

pub returns-else-n-lt16 : goal.returns-else-n-lt16
unfolding capped
returns-else-n-lt16 c = put_full _ _ 16 _ c.args.self.now.long c.args.self.now.most c.if-n-lt16.false
