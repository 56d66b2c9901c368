-- The worked examples, by computing.
use Rattle.std.proofs.Common.{refl}
use lib.Count.{ones}
use Rattle.std.specs.Fmt.{digits}
use Rattle.wire.specs.CellFormat.{bit, events_at, flags_ok, clocks_at, dim_of, map_ok}
use Rattle.wire.specs.Files.{cells_at, steps_at}
use Rattle.wire.specs.Reading.{many}
use Rattle.model.specs.Below.{all_below, first_bad}
use Rattle.model.specs.Outgoing.{finishes, starts_into, starts_below, moves_out}
use Rattle.model.specs.Rules.{faces_in, lacks, letters_ok, commutes_all, identity_ok, quiet_ok, few_ok}
use Rattle.trail.specs.Tests.{meets, fits}
use Rattle.cases.specs.Walks.{WalksStand}

pub walks_stand : WalksStand
unfolding digits bit events_at flags_ok clocks_at dim_of map_ok cells_at steps_at many all_below first_bad finishes starts_into starts_below moves_out faces_in lacks letters_ok commutes_all identity_ok quiet_ok few_ok meets fits ones
walks_stand = (refl, refl, refl, refl, refl, refl)
