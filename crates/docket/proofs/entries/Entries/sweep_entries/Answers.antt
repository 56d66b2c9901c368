use Rattle.std.proofs.Common.{◌≡◌, refl, ap, ◌∙◌, add-one, arith}
use Rattle.docket_theory.specs.Docket.{entries_swept, steps_swept}
use Rattle.docket.proofs.entries.Entries.sweep_entries.Goals as goal

pub loop-i-init : goal.loop-i-init
unfolding entries_swept
loop-i-init g c = λ d. refl

pub loop-i-preserved : goal.loop-i-preserved
unfolding entries_swept
loop-i-preserved g c = rw add-one (λ d. c.sweep_entry.ensures d ∙ ap (steps_swept _ _ _ _) (c.loop-i.invariant d))

pub returns : goal.returns
returns g c =
    let e : c.loop-i.i ≡ c.args.self.now.live = omega arith in
    rw e at c.loop-i.invariant
