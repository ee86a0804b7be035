-- What the inner functions of a call may rely on once the tests 12, 2, 8 and 1 are passed. No public call asks it of its caller.
use Rattle.std.specs.Prelude.{ℕ, ◌≤◌, ◌<◌, List, length}
use Rattle.records.specs.Records.{slot_count, topic_count}
use Rattle.layout.specs.View.{state_of}
use Rattle.validity.specs.Valid.{max_time}
use Rattle.peer_score.specs.Standing.{Standing}
use Rattle.rules.specs.Step.{action_room}

-- a router's table and a time that its clock may move to
pub record Ready (table : List ℕ) (time : ℕ) : Type 0 where
  pub standing : Standing table
  pub clock : (state_of table).clock ≤ time
  pub latest : time ≤ max_time

-- one of its topics, one of its slots, or both
pub record TopicReady (table : List ℕ) (time t : ℕ) : Type 0 where
  pub ready : Ready table time
  pub topic : t < topic_count

pub record PlaceReady (table : List ℕ) (time t s : ℕ) : Type 0 where
  pub ready : Ready table time
  pub topic : t < topic_count
  pub slot : s < slot_count

-- the same with a lent list that has room for every action
pub record TopicLent (table list : List ℕ) (time t : ℕ) : Type 0 where
  pub ready : Ready table time
  pub topic : t < topic_count
  pub room : action_room ≤ length list

pub record PlaceLent (table list : List ℕ) (time t s : ℕ) : Type 0 where
  pub ready : Ready table time
  pub topic : t < topic_count
  pub slot : s < slot_count
  pub room : action_room ≤ length list
