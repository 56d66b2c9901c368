use Rattle.std.proofs.Common.{map, ap, ◌∙◌}
use Rattle.weight.specs.Bounds.{limit_of}
use Rattle.zone.specs.Zones.{formed, limit_list}
use Rattle.zone.specs.Forms.{formed_is}
use Rattle.zone.specs.Kept.{stored_one}
use Rattle.zone.proofs.ZoneClosedForms.closed.Goals as goal

pub returns : goal.returns
returns c =
    stored_one c.canonicalize.new.m (formed (limit_list c.args.self.now))
    (formed_is (map limit_of c.load-m.result) (map limit_of c.canonicalize.new.m) c.canonicalize.result c.canonicalize.ensures.computed c.canonicalize.ensures.emptied
    ∙ ap formed c.load-m.ensures.same)
