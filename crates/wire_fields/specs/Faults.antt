-- What a call that reads a file promises.
use Rattle.std.specs.Prelude.{◌≡◌, Ok, Err, Result}
use Rattle.slip.specs.declared.Slip.{Slip}
use Rattle.wire_fields.specs.declared.fault.Fault.{Fault}
use Rattle.wire_fields.specs.declared.fault.Fault.TheVariants.{Refused, Memory}

-- the result r, seen by view, is what d says; where memory is wanting, nothing is said of the file
abbrev pub Gives : {A B : Type 0} → (A → B) → Result A Fault → Result B Slip → Type 0
Gives view (Ok v) d = d ≡ Ok (view v)
Gives view (Err (Refused e)) d = d ≡ Err e
Gives view (Err Memory) d = Unit {0}

-- where d refuses, r is that refusal, and no want of memory
abbrev pub Heeds : {A B : Type 0} → Result A Fault → Result B Slip → Type 0
Heeds r (Ok x) = Unit {0}
Heeds r (Err e) = r ≡ Err (Refused e)
