-- What the inner functions of a call may rely on once the tests 12, 2, 8 and 1 are passed. No public call asks it of its caller.
use Rattle.std.specs.Prelude.{ℕ, ◌≤◌, ◌<◌, ◌≡◌, true, List, length}
use Rattle.records.specs.Records.{slot_count, topic_count}
use Rattle.layout.specs.View.{cell_count, state_of}
use Rattle.validity.specs.Valid.{max_time}
use Rattle.rules.specs.Step.{action_room}
use Rattle.gossip.specs.Valid.{valid_all}
use Rattle.gossip_table.specs.View.{gossip_cells, extended_of}

-- a router's table and array, and a time that its clock may move to
pub record Admitted (table gossip : List ℕ) (time : ℕ) : Type 0 where
  pub size : length table ≡ cell_count
  pub sizes : length gossip ≡ gossip_cells
  pub router : valid_all (extended_of table gossip) ≡ true
  pub late : (state_of table).clock ≤ time
  pub range : time ≤ max_time

-- one of its slots, or one of its topics
pub record SlotAdmitted (table gossip : List ℕ) (time s : ℕ) : Type 0 where
  pub admitted : Admitted table gossip time
  pub slot : s < slot_count

pub record TopicAdmitted (table gossip : List ℕ) (time t : ℕ) : Type 0 where
  pub admitted : Admitted table gossip time
  pub topic : t < topic_count

-- a topic, and a lent list that has room for every action
pub record TopicLent (table gossip : List ℕ) (time t : ℕ) (list : List ℕ) : Type 0 where
  pub admitted : Admitted table gossip time
  pub topic : t < topic_count
  pub room : action_room ≤ length list

-- the table's length, and what is told fits one number
pub record Ending (table : List ℕ) (actions numbers : ℕ) : Type 0 where
  pub size : length table ≡ cell_count
  pub few : actions ≤ slot_count
  pub some : numbers ≤ 192
