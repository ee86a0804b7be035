-- What the answer to a refused GRAFT may rely on. No public call asks it of its caller.
use Rattle.std.specs.Prelude.{ℕ, ◌≤◌, ◌<◌, ◌≡◌, List, length}
use Rattle.records.specs.declared.Peer.{Peer}
use Rattle.records.specs.Records.{slot_count, topic_count}
use Rattle.layout.specs.View.{cell_count, state_of, PeerFits}
use Rattle.validity.specs.Valid.{max_time, max_id}
use Rattle.effects.specs.Effects.{prune_backoff}
use Rattle.rules.specs.Step.{action_room}

-- the numbers of a PRUNE of p have 32 bits, its record can be stored, and the end of its backoff does not wrap
pub record Refusable (table list : List ℕ) (time t s : ℕ) (p : Peer) : Type 0 where
  pub size : length table ≡ cell_count
  pub topic : t < topic_count
  pub slot : s < slot_count
  pub room : action_room ≤ length list
  pub id : p.id ≤ max_id
  pub fits : PeerFits p
  pub backoff : prune_backoff (state_of table) ≤ 3600
  pub latest : time ≤ max_time
