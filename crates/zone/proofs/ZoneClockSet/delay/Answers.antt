use Rattle.std.proofs.Common.{◌≡◌, rules}
use Rattle.zone.specs.Zones.{zone_delay}
use Rattle.zone.specs.Facts.{delay_stands}
use Rattle.zone.proofs.ZoneClockSet.delay.Goals as goal

pub returns : goal.returns
returns c =
    let same : c.keep.result ≡ zone_delay c.args.self.now = search rules in
    record { same = same; exact = delay_stands c.args.self.now c.keep.result same }
