use Rattle.model.specs.Rules.{letters_ok}
use Rattle.model.proofs.Kept.{no_fault, unbroken}
use Rattle.model.proofs.accept.check_rules.Goals as goal

pub invariant_of-lettered : goal.invariant_of-lettered
invariant_of-lettered c = record { lettered = unbroken letters_ok _ _ (no_fault _ _ c.in_ok-check.ensures) }
