-- What a call that reads promises of its reader: the result is what stands in the bytes from the reader's place on, the new place is
-- the one behind it, and the bytes stay.
use Rattle.std.specs.Prelude.{◌≡◌, ℕ, List, Result}
use Rattle.slip.specs.declared.Slip.{Slip}
use Rattle.wire_fields.specs.declared.fault.Fault.{Fault}
use Rattle.wire_fields.specs.declared.reader.Reader.{Reader}
use Rattle.wire_fields.specs.Faults.{Gives}
use Rattle.wire_fields.specs.Reading.{Parsed, Reads}

-- d says what stands at a place
pub record Takes {A : Type 0} (d : List ℕ → ℕ → Parsed A) (old new : Reader) (r : Result A Slip) : Type 0 where
  pub reads : Reads r new.at (d old.bytes.now old.at)
  pub same : new.bytes ≡ old.bytes

-- the same where the call also allocates, and its value is seen by view
pub record Gathers {A B : Type 0} (view : A → B) (d : List ℕ → ℕ → Parsed B) (old new : Reader) (r : Result A Fault) : Type 0 where
  pub reads : Gives (λ v. (view v, new.at)) r (d old.bytes.now old.at)
  pub same : new.bytes ≡ old.bytes
