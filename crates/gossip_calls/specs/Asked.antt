-- What the inner functions of a call may rely on once the tests 12, 2, 8 and 1 are passed, where a list of numbers is lent too. No public
-- call asks it of its caller.
use Rattle.std.specs.Prelude.{ℕ, ◌≤◌, ◌<◌, ◌≡◌, true, List, length}
use Rattle.records.specs.Records.{slot_count, topic_count}
use Rattle.sets.specs.Sets.{is_permutation}
use Rattle.peer_score.specs.Standing.{Standing}
use Rattle.rules.specs.Step.{action_room}
use Rattle.gossip.specs.Notes.{numbers_most, stored}
use Rattle.gossip_table.specs.View.{gossip_of}
use Rattle.gossip_table.specs.Fine.{Fine}
use Rattle.gossip_gate.specs.Admitted.{Admitted}

-- announce: room for every action, and for every number
pub record Announcing (table gossip : List ℕ) (time t : ℕ) (list numbers : List ℕ) : Type 0 where
  pub admitted : Admitted table gossip time
  pub topic : t < topic_count
  pub room : action_room ≤ length list
  pub fits : numbers_most ≤ length numbers

-- and a draw that is one
pub record Telling (table gossip : List ℕ) (t : ℕ) (order list : List ℕ) : Type 0 where
  pub standing : Standing table
  pub fine : Fine gossip
  pub topic : t < topic_count
  pub permutation : is_permutation slot_count order ≡ true
  pub room : action_room ≤ length list

-- ihave: of a connected peer
pub record HavingAt (table gossip : List ℕ) (time t s : ℕ) (given numbers : List ℕ) : Type 0 where
  pub admitted : Admitted table gossip time
  pub topic : t < topic_count
  pub slot : s < slot_count
  pub few : length given ≤ numbers_most
  pub fits : numbers_most ≤ length numbers

-- and what tells whether it is answered
pub record Answering (table gossip : List ℕ) (t s : ℕ) : Type 0 where
  pub standing : Standing table
  pub fine : Fine gossip
  pub topic : t < topic_count
  pub slot : s < slot_count

-- iwant: a peer, and a number that is stored
pub record Wanting (table gossip : List ℕ) (n s : ℕ) : Type 0 where
  pub standing : Standing table
  pub fine : Fine gossip
  pub slot : s < slot_count
  pub kept : stored (gossip_of gossip) n ≡ true
