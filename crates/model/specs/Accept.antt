-- What accepting a model's cells comes to: the first broken rule with its cell, or the cells.
use Rattle.std.specs.Prelude.{ℕ, cond, List, length, Some, None, Ok, Err, Option, Result, nat_lt}
use Rattle.slip.specs.declared.Refusal.{Refusal}
use Rattle.slip.specs.declared.Refusal.TheVariants.{NoSuchCell, WrongLetters, BrokenIdentity, BusyCell, TooManySteps}
use Rattle.slip.specs.declared.Slip.{Slip}
use Rattle.wire.specs.declared.cell.Cell.{Cell}
use Rattle.model.specs.Below.{first_bad, or_else}
use Rattle.model.specs.Rules.{faces_in, letters_ok, identity_ok, quiet_ok, few_ok}

-- the lowest cell that breaks a rule, as a slip
abbrev pub broken_by : Refusal → Option ℕ → Option Slip
broken_by r None = None
broken_by r (Some i) = Some (record { refusal = r; place = i })

-- the first cell must be one; then each rule is tested over all cells upwards before the next
abbrev pub link_fault : ℕ → List Cell → Option Slip
link_fault first cells =
    cond (nat_lt first (length cells)) (broken_by NoSuchCell (first_bad (length cells) (faces_in cells))) (Some (record { refusal = NoSuchCell; place = first }))

abbrev pub rule_fault : ℕ → List Cell → Option Slip
rule_fault first cells =
    or_else (broken_by WrongLetters (first_bad (length cells) (letters_ok cells)))
    (or_else (broken_by BrokenIdentity (first_bad (length cells) (identity_ok cells)))
    (or_else (broken_by BusyCell (first_bad (length cells) (quiet_ok first cells)))
    (broken_by TooManySteps (first_bad (length cells) (few_ok cells)))))

abbrev pub model_fault : ℕ → List Cell → Option Slip
model_fault first cells = or_else (link_fault first cells) (rule_fault first cells)

-- the answer of a test that turns away with the slip, if there is one
abbrev pub unless : Option Slip → Result (Unit {0}) Slip
unless None = Ok tt
unless (Some e) = Err e
