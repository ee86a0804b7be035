-- What the inner functions of a call may rely on once test 12 is passed. No public call asks it of its caller.
use Rattle.std.specs.Prelude.{ℕ, ◌<◌, ◌≡◌, true, List, length}
use Rattle.records.specs.declared.Peer.{Peer}
use Rattle.records.specs.Records.{slot_count, topic_count, peer_in}
use Rattle.layout.specs.View.{cell_count, state_of}
use Rattle.validity.specs.Valid.{valid}

-- a router's table
pub record Standing (table : List ℕ) : Type 0 where
  pub size : length table ≡ cell_count
  pub router : valid (state_of table) ≡ true

-- one of its topics, one of its slots, or both
pub record TopicStanding (table : List ℕ) (t : ℕ) : Type 0 where
  pub standing : Standing table
  pub topic : t < topic_count

pub record SlotStanding (table : List ℕ) (s : ℕ) : Type 0 where
  pub standing : Standing table
  pub slot : s < slot_count

pub record PlaceStanding (table : List ℕ) (t s : ℕ) : Type 0 where
  pub standing : Standing table
  pub topic : t < topic_count
  pub slot : s < slot_count

-- one of its slots, and the peer's record there
pub record PeerStanding (table : List ℕ) (s : ℕ) (p : Peer) : Type 0 where
  pub standing : Standing table
  pub slot : s < slot_count
  pub peer : p ≡ peer_in (state_of table) s

-- a parameter of one of its topics
pub record AtTopicParam (table : List ℕ) (t j : ℕ) : Type 0 where
  pub size : length table ≡ cell_count
  pub topic : t < topic_count
  pub param : j < 16
