use Rattle.std.proofs.Common.{rules, vec_items}
use Rattle.std.specs.Option.{option_map}
use Rattle.judging.proofs.Shut.{judged_shut}
use Rattle.judging.proofs.judge.Goals as goal

pub returns-clause-shut : goal.returns-clause-shut
returns-clause-shut g c =
    let k = g.S.ClockSet.calls in
    let cover = option_map (λ b. b.now) c.args.cover in
    let trail = option_map (λ b. b.now) c.args.trail in
    judged_shut g.S.ClockSet.holds k g.met.S.ClockSet.sound c.args.model.now cover trail vec_items c.ended.result
    (λ ok. c.note_judgement-outcome.ensures.accepted (c.ended.ensures.memory ok)) (search rules)
