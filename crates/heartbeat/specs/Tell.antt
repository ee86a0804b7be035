-- What the actions of a heartbeat say of a peer, by slot, and what the functions that write them rely on.
use Rattle.std.specs.Prelude.{ℕ, ◌≡◌, cond, List, length, eqb}
use Rattle.records.specs.Records.{State, slot_count, peer_in}
use Rattle.layout.specs.View.{cell_count, state_of}
use Rattle.sets.specs.Sets.{by_slot}
use Rattle.mesh.specs.Maintenance.{Writable}

-- the ids of the peers
abbrev pub ids_in : State → List ℕ
ids_in st = by_slot slot_count (λ s. (peer_in st s).id)

-- the seconds that each peer is told of a backoff: none at version 1.0.0
abbrev pub told_by : State → ℕ → List ℕ
told_by st seconds = by_slot slot_count (λ s. cond (eqb (peer_in st s).version 0) 0 seconds)

-- a table whose peers can be told, and room for n actions
pub record Tells (table list : List ℕ) (seconds n : ℕ) : Type 0 where
  pub size : length table ≡ cell_count
  pub writable : Writable list (ids_in (state_of table)) (told_by (state_of table) seconds) n
