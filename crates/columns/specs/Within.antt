-- What the passes over columns tell of the records in the slots below n.
use Rattle.std.specs.Prelude.{◌≡◌, ℕ, ◌<◌, ◌≤◌, List, length, slice_index}
use Rattle.records.specs.Records.{State, slot_count, topic_count, place, peer_in, topic_in}
use Rattle.layout.specs.View.{cell_count, used_of}

-- what every pass needs: a table, and that the mark passed n slots of it
pub record InUse (c : List ℕ) (n : ℕ) : Type 0 where
  pub size : length c ≡ cell_count
  pub slots : n ≤ slot_count
  pub mark : n ≤ used_of c

-- the numbers of a peer that have a limit
pub record PeersWithin (st : State) (n max_id max_group maxP5 maxP7 : ℕ) : Type 0 where
  pub id : (s : ℕ) → s < n → (peer_in st s).id ≤ max_id
  pub group : (s : ℕ) → s < n → (peer_in st s).groups.first ≤ max_group
  pub p5 : (s : ℕ) → s < n → (peer_in st s).p5 ≤ maxP5
  pub p7 : (s : ℕ) → s < n → (peer_in st s).p7 ≤ maxP7

-- an id and a group in every slot: none is empty
pub record Named (st : State) (n : ℕ) : Type 0 where
  pub id : (s : ℕ) → s < n → 1 ≤ (peer_in st s).id
  pub group : (s : ℕ) → s < n → 1 ≤ (peer_in st s).groups.first

-- no group but the first
pub record OneGroup (st : State) (n : ℕ) : Type 0 where
  pub second : (s : ℕ) → s < n → (peer_in st s).groups.second ≡ 0
  pub third : (s : ℕ) → s < n → (peer_in st s).groups.third ≡ 0
  pub fourth : (s : ℕ) → s < n → (peer_in st s).groups.fourth ≡ 0

-- no retain end
pub record NoRetain (st : State) (n : ℕ) : Type 0 where
  pub retain : (s : ℕ) → s < n → (peer_in st s).retain ≡ 0

-- each backoff end is at most m
pub record EndsWithin (st : State) (n m : ℕ) : Type 0 where
  pub end : (s t : ℕ) → s < n → t < topic_count → slice_index (peer_in st s).backoff t ≤ m

-- the counters, P2 and P3 by the caps of their topic
pub record CountersWithin (st : State) (n : ℕ) (caps2 caps3 : List ℕ) (maxP4 maxP3b : ℕ) : Type 0 where
  pub p2 : (s t : ℕ) → s < n → t < topic_count → (topic_in st (place s t)).p2 ≤ slice_index caps2 t
  pub p3 : (s t : ℕ) → s < n → t < topic_count → (topic_in st (place s t)).p3 ≤ slice_index caps3 t
  pub p4 : (s t : ℕ) → s < n → t < topic_count → (topic_in st (place s t)).p4 ≤ maxP4
  pub p3b : (s t : ℕ) → s < n → t < topic_count → (topic_in st (place s t)).p3b ≤ maxP3b
