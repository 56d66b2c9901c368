use Rattle.std.proofs.Common.{◌≡◌, ℕ, ◌-◌, List, ◌++◌, map, replicate, take, vec_items, vec_len, ap, ◌∙◌, subst}
use Rattle.std.specs.Option.{option_map}
use Rattle.wire.specs.Files.{entry_seen}
use Rattle.model.specs.Whole.{plan_of}
use Rattle.docket_theory.specs.declared.Entry.{Entry}
use Rattle.docket_theory.specs.Worlds.{World, most_entries}
use Rattle.lines.specs.Notes.{Notes}
use Rattle.judging.specs.Judge.{lodge_all, lodged_lines}
use Rattle.judging.proofs.Begun.{begun_is}
use Rattle.judging.proofs.note_case.Goals as goal

pub returns : goal.returns
returns g c =
    let k = g.S.ClockSet.calls in
    let m = plan_of c.args.model.now in
    let at : g.row.S.Denot → Entry g.row.S.Denot = λ s. record { cell = 0; set = s } in
    let all = at c.all.result in
    let filled : vec_items c.resize.new.self ≡ replicate most_entries all =
    c.in_ok-resize.ensures.items
    ∙ ap (λ (xs : List (Entry g.row.S.Denot)). take most_entries xs ++ replicate (most_entries - vec_len c.new-rows.result) all) c.new-rows.ensures.items
    ∙ ap (λ (n : ℕ). replicate (most_entries - n) all) c.new-rows.ensures.len in
    let rows = c.new-2.ensures.rows ∙ c.deref_mut.ensures.value ∙ filled ∙ ap (λ (s : g.row.S.Denot). replicate most_entries (at s)) c.all.ensures in
    let marks = c.deref_mut-2.ensures.value ∙ c.in_ok-marks.ensures.items_if_clones_equal (λ y e. e) in
    subst (λ (w : World g.row.S.Denot). Notes c.args.report.now.lines.items c.note_cover.result c.note_cover.new.report.lines.items
    (lodged_lines k m (option_map (λ b. b.now) c.args.trail) (lodge_all k m (map entry_seen c.args.cover.now) w)))
    (begun_is k _ _ _ _ rows c.new-2.ensures.live marks c.new.ensures) c.note_cover.ensures
