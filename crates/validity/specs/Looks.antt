-- What the quick test finds out, part by part, of a table whose slots from n on were never taken. No rule stands here: together the parts
-- are test 12's rule of a slot (proofs/LookLaws.antt).
use Rattle.std.specs.Prelude.{ℕ, ◌+◌, ◌*◌, ◌/◌, ◌%◌, ◌^◌, ◌≤◌, ◌<◌, ◌≡◌, true}
use Rattle.index.specs.Index.{every}
use Rattle.records.specs.Records.{State, slot_count, topic_count, place, peer_in, topic_in}
use Rattle.slot_words.specs.Flags.{PeerFlags, TopicFlags, TimesWithin}
use Rattle.columns.specs.Within.{PeersWithin, EndsWithin}
use Rattle.validity.specs.Valid.{max_time, max_id, max_group, rising_ok, slot_ok, new_id, cap2, cap3}

-- the flags, and the members' times
pub record WordsRight (st : State) (n : ℕ) : Type 0 where
  pub peers : PeerFlags st n
  pub topics : (t : ℕ) → t < topic_count → TopicFlags st t
  pub times : (t : ℕ) → t < topic_count → TimesWithin st t st.clock

-- the numbers that have a limit, backoff ends up to m
pub record ColumnsRight (st : State) (n m : ℕ) : Type 0 where
  pub peers : PeersWithin st n max_id max_group 2000000000 1000000
  pub ends : EndsWithin st n m
  pub p2 : (s t : ℕ) → s < n → t < topic_count → (topic_in st (place s t)).p2 ≤ cap2 st t
  pub p3 : (s t : ℕ) → s < n → t < topic_count → (topic_in st (place s t)).p3 ≤ cap3 st t
  pub p4 : (s t : ℕ) → s < n → t < topic_count → (topic_in st (place s t)).p4 ≤ 1000000
  pub p3b : (s t : ℕ) → s < n → t < topic_count → (topic_in st (place s t)).p3b ≤ 1000000000000

-- ---- a slot
-- groups go upward, where the first is one
pub record GroupsAt (st : State) (s : ℕ) : Type 0 where
  pub rising : (peer_in st s).groups.first ≤ max_group → rising_ok (peer_in st s).groups ≡ true

-- a record that is not empty has an id and a group
pub record NameAt (st : State) (s : ℕ) : Type 0 where
  pub id : ((peer_in st s).status ≡ 0 → ⊥) → 1 ≤ (peer_in st s).id
  pub group : ((peer_in st s).status ≡ 0 → ⊥) → 1 ≤ (peer_in st s).groups.first

-- a retain end is at most m, and 0 unless retained
pub record RetainAt (st : State) (m s : ℕ) : Type 0 where
  pub most : (peer_in st s).retain ≤ m
  pub over : ((peer_in st s).status ≡ 2 → ⊥) → (peer_in st s).retain ≡ 0

-- an empty slot is all zero
pub record HoleAt (st : State) (s : ℕ) : Type 0 where
  pub empty : (peer_in st s).status ≡ 0 → slot_ok st s ≡ true

pub record SlotsRight (st : State) (n m : ℕ) : Type 0 where
  pub groups : (s : ℕ) → s < n → GroupsAt st s
  pub names : (s : ℕ) → s < n → NameAt st s
  pub retains : (s : ℕ) → s < n → RetainAt st m s
  pub holes : (s : ℕ) → s < n → HoleAt st s

-- every bit of w is an empty slot, of those of word i
pub record FreeIn (st : State) (i w : ℕ) : Type 0 where
  pub empty : (j : ℕ) → j < 64 → w / 2 ^ j % 2 ≡ 1 → (peer_in st (64 * i + j)).status ≡ 0

-- ---- all
-- every record is right, and no id stands twice
pub record RecordsRight (st : State) : Type 0 where
  pub slots : st.clock ≤ max_time → every slot_count (slot_ok st) ≡ true
  pub ids : every slot_count (new_id st) ≡ true
