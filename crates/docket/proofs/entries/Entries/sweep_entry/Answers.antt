use Rattle.std.proofs.Common.{◌≡◌, ◌<◌, length, refl, ◌∙◌, arith, rules}
use Rattle.model.specs.declared.outgoing.Move.TheVariants.{Wait}
use Rattle.model.specs.Outgoing.{moves_out}
use Rattle.model.specs.Whole.{plan_of}
use Rattle.docket_theory.specs.Docket.{steps_swept}
use Rattle.docket_theory.specs.Worlds.{open_mark}
use Rattle.docket.specs.World.{world}
use Rattle.docket.proofs.Rows.{row_live}
use Rattle.docket.proofs.Steps.{lent_step}
use Rattle.docket.proofs.Sweeps.{step_more}
use Rattle.docket.proofs.entries.Entries.sweep_entry.Goals as goal

pub loop-j-init : goal.loop-j-init
unfolding steps_swept
loop-j-init g c = λ d. refl

pub loop-j-preserved : goal.loop-j-preserved
loop-j-preserved g c =
    let here = c.in-Some.ensures in
    let live = row_live c.args.self.now.rows.now c.args.self.now.live c.args.i c.in-Some.from here in
    let lt : c.args.i < open_mark = search rules in
    let steps = c.steps-step-items.ensures ∙ c.steps_from-moves.ensures in
    let step = lent_step c.steps-step-items.result.now (moves_out (plan_of c.args.model.now).cells c.in-Some.from.cell) steps c.loop-j.j Wait c.loop-j-test.true in
    λ d. step_more _ (plan_of c.args.model.now) c.args.self.now.rows.now c.args.self.now.live c.args.i d (world c.args.self.now c.args.marks.now d) c.loop-j.j c.loop-j.marks _ c.in-Some.from _ lt here step c.sweep_step.ensures (c.loop-j.invariant d)

pub returns-after-loop-j : goal.returns-after-loop-j
returns-after-loop-j g c =
    let steps = c.steps-step-items.ensures ∙ c.steps_from-moves.ensures in
    let e : c.loop-j.j ≡ length c.steps-step-items.result.now = omega arith in
    rw (← c.in-Some.ensures, ← steps, ← e) c.loop-j.invariant

pub returns-in_default : goal.returns-in_default
unfolding steps_swept
returns-in_default g c = rw (← c.in_default.ensures) (λ d. refl)
