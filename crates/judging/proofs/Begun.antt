-- Where a docket begins.
use Rattle.std.proofs.Common.{◌≡◌, ℕ, ◌*◌, List, replicate}
use Rattle.docket_theory.specs.declared.Entry.{Entry}
use Rattle.docket_theory.specs.Worlds.{open_mark, steps_per_entry, most_entries}
use Rattle.docket.specs.declared.docket.Docket.{Docket}
use Rattle.docket.specs.World.{world_of, fresh_docket}
use Rattle.clockset.specs.Calls.{Calls}
use Rattle.judging.specs.Judge.{begun}

-- the world over full tables with nothing lodged
pub begun_is : {S : Type 0} (k : Calls S) (rows : List (Entry S)) (n : ℕ) (marks : List ℕ) (d : Docket) → rows ≡ replicate most_entries (record { cell = 0; set = k.all }) → n ≡ 0 → marks ≡ replicate (most_entries * steps_per_entry) open_mark → d ≡ fresh_docket → world_of rows n marks d ≡ begun k
begun_is k rows n marks d e₁ e₂ e₃ e₄ = λ i. world_of (e₁ i) (e₂ i) (e₃ i) (e₄ i)
