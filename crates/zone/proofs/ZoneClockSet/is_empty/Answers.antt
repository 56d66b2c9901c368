use Rattle.std.proofs.Common.{◌≡◌, not, sym, subst, rules}
use Rattle.zone.specs.Exact.{EmptyExact}
use Rattle.zone.specs.Zones.{zone_empty}
use Rattle.zone.specs.Facts.{empty_exactly}
use Rattle.zone.proofs.ZoneClockSet.is_empty.Goals as goal

pub returns : goal.returns
returns c =
    let z = c.args.self.now in
    let same : not c.canonicalize.result ≡ zone_empty z = search rules in
    record { same = same; exact = subst (EmptyExact z) (sym same) (empty_exactly z) }
