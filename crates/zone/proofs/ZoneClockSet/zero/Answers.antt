use Rattle.std.proofs.Common.{sym, refl, subst}
use Rattle.zone_theory.specs.Matrices.{zero_limits}
use Rattle.zone_theory.specs.Sets.{tabled}
use Rattle.zone.specs.Exact.{ZeroExact}
use Rattle.zone.specs.Facts.{zero_exact}
use Rattle.zone.specs.Kept.{stored_one}
use Rattle.zone.proofs.ZoneClockSet.zero.Goals as goal

pub returns : goal.returns
unfolding tabled
returns c =
    let is = stored_one _ (tabled zero_limits) (rw c.up_to.ensures refl) in
    record { same = is; exact = subst ZeroExact (sym is) zero_exact }
