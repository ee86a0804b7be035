-- What a function on the lent table relies on: the table's length, and a parameter, a topic or a slot of it. No public call asks it of its
-- caller.
use Rattle.std.specs.Prelude.{ℕ, ◌+◌, ◌≤◌, ◌<◌, ◌≡◌, List, length}
use Rattle.records.specs.declared.Peer.{Peer}
use Rattle.records.specs.Records.{slot_count, topic_count, param_count}
use Rattle.layout.specs.View.{cell_count}

pub record AtParam (table : List ℕ) (i : ℕ) : Type 0 where
  pub size : length table ≡ cell_count
  pub param : i < param_count

pub record AtTopic (table : List ℕ) (t : ℕ) : Type 0 where
  pub size : length table ≡ cell_count
  pub topic : t < topic_count

pub record AtSlot (table : List ℕ) (s : ℕ) : Type 0 where
  pub size : length table ≡ cell_count
  pub slot : s < slot_count

pub record AtPlace (table : List ℕ) (t s : ℕ) : Type 0 where
  pub size : length table ≡ cell_count
  pub topic : t < topic_count
  pub slot : s < slot_count

-- an end that does not wrap: a time of 01's range, and seconds of at most a day
pub record EndFits (time n : ℕ) : Type 0 where
  pub latest : time ≤ 1099511627776
  pub seconds : n ≤ 86400

-- a PRUNE whose numbers have 32 bits and find room
pub record PruneFits (list : List ℕ) (at : ℕ) (p : Peer) (n : ℕ) : Type 0 where
  pub room : at + 3 ≤ length list
  pub id : p.id ≤ 4294967295
  pub seconds : n ≤ 4294967295

-- a connected record's numbers, as they are stored
pub record ConnectFits (f v : ℕ) : Type 0 where
  pub flags : f ≤ 3
  pub version : v ≤ 3
