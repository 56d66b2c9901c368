use Rattle.std.proofs.Common.{◌≡◌, ◌<◌, None, vec_items, vec_len, rules, arith}
use Rattle.model.specs.Accept.{link_fault}
use Rattle.model.proofs.Kept.{no_fault, rule_fault_found, linked_from, ruled_from}
use Rattle.model.proofs.accept.ModelTryFromModelFile.try_from.Goals as goal

pub invariant_of-check_rules : goal.invariant_of-check_rules
invariant_of-check_rules c =
    let passed = no_fault _ _ c.in_ok-check_links.ensures in
    record { small = omega (arith, c.args.file.small, c.deref-2.ensures.len); linked = (linked_from c.args.file.first c.deref-2.result.now cc).1 }

pub returns-in_err-check_rules : goal.returns-in_err-check_rules
returns-in_err-check_rules c =
    let passed = no_fault _ _ c.in_ok-check_links.ensures in
    let linked : link_fault c.args.file.first c.deref-2.result.now ≡ None = cc in
    let found = rw c.deref-2.ensures.value at (rule_fault_found c.args.file.first c.deref-2.result.now _ linked c.in_err-check_rules.ensures) in search rules

pub invariant_of-result : goal.invariant_of-result
invariant_of-result c =
    let f = c.args.file in
    let linked = no_fault _ _ c.in_ok-check_links.ensures in
    let ruled = no_fault _ _ c.in_ok-check_rules.ensures in
    let l = linked_from f.first (vec_items f.cells) cc in
    let r = ruled_from f.first (vec_items f.cells) cc in
    let b : c.args.file.first < vec_len c.args.file.cells = omega (arith, l.0, f.cells.ok.0) in
    record { small = f.small; begins = b; linked = l.1; lettered = r.0; commuting = r.1; quiet = r.2; few = r.3 }
