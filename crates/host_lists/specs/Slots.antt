-- A heartbeat moves nobody: demand 3 names the peers of a mesh by their slots, before the heartbeat and after it.
use Rattle.std.specs.Prelude.{ℕ, ◌≡◌, List}
use Rattle.records.specs.declared.Peer.{Peer}
use Rattle.records.specs.Records.{State, peer_in}
use Rattle.rules.specs.Calls.{heartbeat}
use Rattle.rules.specs.Step.{step}

-- the same peer: its id, its direction, and whether the record is empty, connected or retained
pub record SamePeer (p q : Peer) : Type 0 where
  pub id : q.id ≡ p.id
  pub outbound : q.outbound ≡ p.outbound
  pub status : q.status ≡ p.status

-- of every state, slot and room, whatever the heartbeat answers
abbrev pub SlotsKeepPeers : Type 0
SlotsKeepPeers =
    (st : State) (time t ask room s : ℕ) (order : List ℕ) →
    SamePeer (peer_in st s) (peer_in (step st (heartbeat time t ask order) room).state s)
