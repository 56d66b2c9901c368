use Rattle.std.proofs.Common.{map, pos, rules, ◌∙◌, arith}
use Rattle.std.proofs.lemmas.List.{length-map}
use Rattle.std.proofs.lemmas.Iterator.{YieldsList-from_slice, YieldsList-from_zip}
use Rattle.std.proofs.lemmas.Iterator.Search.{all_from_yields_List}
use Rattle.weight.specs.Bounds.{limit_of}
use Rattle.weight.specs.Limits.{under, up_to, free, limit_leb, limit_plus}
use Rattle.zone_theory.proofs.Tables.{tabled_length, zip_read, zip_beneath}
use Rattle.zone.specs.Zones.{limit_list, read_limit}
use Rattle.zone.specs.Kept.{read_list}
use Rattle.zone.proofs.is_beneath.Goals as goal
use borrow.Author.Tests.{tests}

pub returns : goal.returns
returns c =
    let m = c.args.m.now in
    let stored = c.args.zone.now.bounds in
    all_from_yields_List (λ p. limit_leb (limit_of p.0) (read_limit p.1)) c.all.new.self _ c.all.result c.all.ensures.ran (YieldsList-from_zip (YieldsList-from_slice m cc) (YieldsList-from_slice stored cc)) (λ x b q k. search (rules, tests))
    ∙ zip_read limit_leb limit_of read_limit m stored
    ∙ rw (read_list c.args.zone.now (omega arith))
    (zip_beneath limit_leb limit_plus (up_to (pos 0)) free (under (pos 0)) (map limit_of m) (limit_list c.args.zone.now) (simp length-map (omega arith)) (tabled_length _))
