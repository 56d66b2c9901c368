-- What the contracts on a docket alone say of the world that it makes with any tables.
use Rattle.std.proofs.Common.{◌≡◌, ℕ, List, Result, ap}
use Rattle.slip.specs.declared.Slip.{Slip}
use Rattle.trail.specs.Calls.{Outcome}
use Rattle.docket_theory.specs.declared.Entry.{Entry}
use Rattle.docket_theory.specs.Docket.{with_trail}
use Rattle.docket_theory.specs.Worlds.{World, fresh}
use Rattle.docket.specs.declared.docket.Docket.{Docket}
use Rattle.docket.specs.World.{world_of, fresh_docket, trailed}

module _ {S : Type 0} (rows : List (Entry S)) (marks : List ℕ) where
  pub fresh_world : (d : Docket) → d ≡ fresh_docket → world_of rows 0 marks d ≡ fresh rows marks
  fresh_world d e = ap (world_of rows 0 marks) e

  -- at `setting_out m s t` this is `set_out_call m s`, and at `stepped m step t` it is `step_call m step`
  pub trailed_world : (n : ℕ) (r : Result (Unit {0}) Slip) (o : Outcome) (before after : Docket) → ◌≡◌ {A = Result (Unit {0}) Slip × Docket} (r, after) (trailed o before) → ◌≡◌ {A = Result (Unit {0}) Slip × World S} (r, world_of rows n marks after) (with_trail o (world_of rows n marks before))
  trailed_world n r o before after e =
      ap (λ (p : Result (Unit {0}) Slip × Docket). (p.0, world_of rows n marks p.1)) e
