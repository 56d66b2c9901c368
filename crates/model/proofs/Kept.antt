-- The rules that a model keeps when no fault was found.
use Rattle.std.proofs.Common.{◌≡◌, ℕ, ◌<◌, Bool, true, false, cond, ltb, List, length, Some, None, Ok, Err, Option, refl, ap, ◌∙◌}
use Rattle.std.proofs.lemmas.Bool.{ltb-true}
use Rattle.slip.specs.declared.Refusal.{Refusal}
use Rattle.slip.specs.declared.Refusal.TheVariants.{NoSuchCell}
use Rattle.slip.specs.declared.Slip.{Slip}
use Rattle.wire.specs.declared.cell.Cell.{Cell}
use Rattle.model.specs.Accept.{link_fault, rule_fault, model_fault, broken_by, unless}
use Rattle.model.specs.Below.{first_bad, or_else}
use Rattle.model.specs.Rules.{every_cell, faces_in, letters_ok, identity_ok, quiet_ok, few_ok}
use Rattle.model.proofs.Below.{all_from_none}

-- a check that passed found no fault
pub no_fault : (o : Option Slip) (x : Unit {0}) → Ok x ≡ unless o → o ≡ None
no_fault None x e = refl
no_fault (Some s) x e = cc

-- a check of the rules that turned cells away, after that of the links had passed
pub rule_fault_found : (first : ℕ) (cells : List Cell) (e : Slip) → link_fault first cells ≡ None → Err e ≡ unless (rule_fault first cells) → model_fault first cells ≡ Some e
rule_fault_found first cells e passed found = ap (λ (o : Option Slip). or_else o (rule_fault first cells)) passed ∙ by (rule_fault first cells) found
  where
    by : (o : Option Slip) → Err e ≡ unless o → o ≡ Some e
    by None h = cc
    by (Some s) h = cc

none_parts : {X : Type 0} (o p : Option X) → or_else o p ≡ None → (o ≡ None) × (p ≡ None)
none_parts None p e = (refl, e)
none_parts (Some x) p e = cc

pub unbroken : (rule : List Cell → ℕ → Bool) (r : Refusal) (cells : List Cell) → broken_by r (first_bad (length cells) (rule cells)) ≡ None → every_cell rule cells
unbroken rule r cells e = all_from_none (length cells) (rule cells) (none (first_bad (length cells) (rule cells)) e)
  where
    none : (o : Option ℕ) → broken_by r o ≡ None → o ≡ None
    none None q = refl
    none (Some i) q = cc

pub linked_from : (first : ℕ) (cells : List Cell) → link_fault first cells ≡ None → (first < length cells) × every_cell faces_in cells
linked_from first cells e = parts (ltb first (length cells)) refl e
  where
    parts : (b : Bool) → ltb first (length cells) ≡ b → cond b (broken_by NoSuchCell (first_bad (length cells) (faces_in cells))) (Some (record { refusal = NoSuchCell; place = first })) ≡ None → (first < length cells) × every_cell faces_in cells
    parts true is q = (ltb-true first (length cells) is, unbroken faces_in NoSuchCell cells q)
    parts false is q = cc

pub ruled_from : (first : ℕ) (cells : List Cell) → rule_fault first cells ≡ None → every_cell letters_ok cells × every_cell identity_ok cells × every_cell (quiet_ok first) cells × every_cell few_ok cells
ruled_from first cells e =
    let p = none_parts _ _ e in
    let q = none_parts _ _ p.1 in
    let r = none_parts _ _ q.1 in
    (unbroken letters_ok _ cells p.0, unbroken identity_ok _ cells q.0, unbroken (quiet_ok first) _ cells r.0, unbroken few_ok _ cells r.1)
