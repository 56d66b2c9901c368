use Rattle.std.proofs.Common.{◌≡◌, rules}
use Rattle.zone.specs.Zones.{zone_reset}
use Rattle.zone.specs.Facts.{reset_stands}
use Rattle.zone.proofs.ZoneClockSet.reset.Goals as goal

pub returns : goal.returns
returns c =
    let same : c.keep.result ≡ zone_reset c.args.self.now c.args.mask = search rules in
    record { same = same; exact = reset_stands c.args.self.now c.args.mask c.keep.result same }
