use Rattle.std.proofs.Common.{◌≡◌, map, drop}
use Rattle.weight.specs.Bounds.{limit_of}
use Rattle.zone.specs.Zones.{raw_cuts}
use Rattle.zone.proofs.cut_all_raw.Given as goal

abbrev pub invariant-loop-gap : goal.invariant-loop-gap
invariant-loop-gap l = raw_cuts (drop l.gap-index l.gaps) (map limit_of l.m) ≡ raw_cuts l.gaps (map limit_of l.initial.m)
