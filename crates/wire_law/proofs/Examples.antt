use Rattle.std.proofs.Common.{◌≡◌, [], ◌∷◌, Ok, sym, refl, ◌∙◌}
use lib.Count.{ones, ones_in}
use Rattle.wire.specs.Reading.{many}
use Rattle.wire.specs.CellFormat.{bit, events_at, flags_ok, clocks_at, dim_of, map_ok, cell_of}
use Rattle.wire.specs.CoverFormat.{gaps_at}
use Rattle.wire.specs.Files.{model_file, cells_at, steps_at, entries_at}
use Rattle.wire.proofs.Cells.{cell_is}
use Rattle.wire_law.specs.Examples.{lane_bytes, before, at, behind, ExamplesStand}

lane : model_file lane_bytes ≡ Ok (0, cell_of 32 before.events 1 before.ends ∷ cell_of 65 at.events 0 at.ends ∷ cell_of 80 behind.events 0 behind.ends ∷ [])
unfolding many bit events_at flags_ok clocks_at dim_of map_ok cells_at ones ones_in
lane = refl

pub examples_stand : ExamplesStand
unfolding many bit events_at flags_ok clocks_at dim_of map_ok cells_at steps_at gaps_at entries_at ones ones_in
examples_stand =
    let b = cell_is 32 0 1 before.last before.events before.ends before.few refl refl in
    let a = cell_is 65 1 0 at.last at.events at.ends at.few refl refl in
    let e = cell_is 80 0 0 behind.last behind.events behind.ends behind.few refl refl in
    (lane ∙ sym (λ i. Ok (0, b i ∷ a i ∷ e i ∷ [])), refl, refl, refl, refl, refl, refl, refl, refl, refl, refl, refl, refl, refl, refl, refl)
