-- The reports, by computing.
use Rattle.std.proofs.Common.{refl}
use lib.Count.{ones}
use Rattle.std.specs.Fmt.{digits}
use Rattle.wire.specs.CellFormat.{bit, events_at, flags_ok, clocks_at, dim_of, map_ok}
use Rattle.wire.specs.CoverFormat.{gaps_at}
use Rattle.wire.specs.Files.{cells_at, steps_at, entries_at}
use Rattle.wire.specs.Reading.{many}
use Rattle.model.specs.Below.{all_below, first_bad}
use Rattle.model.specs.Outgoing.{finishes, starts_into, starts_below, moves_out}
use Rattle.model.specs.Rules.{faces_in, lacks, letters_ok, commutes_all, identity_ok, quiet_ok, few_ok}
use Rattle.trail.specs.Tests.{meets, fits}
use Rattle.weight.specs.Closing.{one_pass, closing, empty_form}
use Rattle.zone_theory.specs.Sets.{tabled, beneath_all}
use Rattle.docket_theory.specs.Docket.{opened, steps_swept, entries_swept, open_steps, open_entries, entry_duties}
use Rattle.docket_theory.specs.Images.{cut_to}
use Rattle.zone.specs.Facts.{cases_stand}
use Rattle.cases.specs.Verdicts.{Cases}
use Rattle.cases.proofs.Walked.{walks_stand}

pub cases : Cases
unfolding digits bit events_at flags_ok clocks_at dim_of map_ok gaps_at cells_at steps_at entries_at many all_below first_bad finishes starts_into starts_below moves_out faces_in lacks letters_ok commutes_all identity_ok quiet_ok few_ok meets fits ones one_pass closing empty_form tabled beneath_all opened steps_swept entries_swept open_steps open_entries entry_duties cut_to
cases = (refl, refl, refl, refl, refl, refl, refl, walks_stand, cases_stand)
