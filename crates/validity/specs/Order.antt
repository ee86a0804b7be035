-- The parts of test 12's tests of a topic record in the order in which the code asks them, and what its walks rely on. No rule stands here:
-- each test is a part of a definition of Valid.antt, and together they are `topic_ok` (proofs/OrderLaws.antt).
use Rattle.std.specs.Prelude.{ℕ, ◌%◌, ◌≤◌, ◌<◌, ◌≡◌, Bool, true, ◌&&◌, List, leb, length, get_or}
use Rattle.marks.specs.Marks.{bucket_count, word_count, is_marked}
use Rattle.records.specs.declared.TopicRecord.{TopicRecord}
use Rattle.records.specs.Records.{State, slot_count, topic_count, place, peer_in, topic_in}
use Rattle.layout.specs.View.{cell_count, state_of, EmptyFrom}
use Rattle.validity.specs.Valid.{max_time, max_end, ends_up_to, zero_topic, empty_topic_ok, outside_ok, retained_ok, member_ok, times_ok, cap2}
use Rattle.validity.specs.Valid.{cap3}

-- the ranges of the counters, and of the flags and times
unfoldable pub counter_ranges : (cap2 cap3 : ℕ) → TopicRecord → Bool
counter_ranges cap2 cap3 t = leb t.p2 cap2 && leb t.p3 cap3 && leb t.p4 1000000 && leb t.p3b 1000000000000

unfoldable pub flag_ranges : TopicRecord → Bool
flag_ranges t = leb t.subscribed 1 && leb t.member 1 && leb t.graft max_time && leb t.mesh max_time

-- all but the ranges
unfoldable pub rest_ok : (status explicit joined clock : ℕ) → TopicRecord → Bool
rest_ok status explicit joined clock t =
    empty_topic_ok status t && outside_ok t && retained_ok status t && member_ok status explicit joined t && times_ok clock t

-- the ranges that depend on no parameter, of what most records hold little of
unfoldable pub small_ok : TopicRecord → Bool
small_ok t = leb t.p4 1000000 && leb t.p3b 1000000000000 && leb t.subscribed 1

-- of a slot: its backoff ends, and its record for every topic
pub record Small (st : State) (s : ℕ) : Type 0 where
  pub ends : ends_up_to (max_end st.clock) (peer_in st s) ≡ true
  pub topics : (t : ℕ) → t < topic_count → small_ok (topic_in st (place s t)) ≡ true

-- topic t of an empty slot
unfoldable pub zero_topic_at : State → (s t : ℕ) → Bool
zero_topic_at st s t = zero_topic (topic_in st (place s t))

-- the caps of P2 and P3, by topic
pub record Caps (st : State) (caps2 caps3 : List ℕ) : Type 0 where
  pub p2 : (t : ℕ) → t < topic_count → get_or caps2 t 0 ≡ cap2 st t
  pub p3 : (t : ℕ) → t < topic_count → get_or caps3 t 0 ≡ cap3 st t

-- ---- ids by buckets
-- every id of the slots below s has marked its bucket
pub record Seen (st : State) (seen : List ℕ) (s : ℕ) : Type 0 where
  pub size : length seen ≡ word_count
  pub marks : (k : ℕ) → k < s → ((peer_in st k).id ≡ 0 → ⊥) → is_marked seen ((peer_in st k).id % bucket_count) ≡ true

-- what the look at a slot's id relies on
pub record Seeing (table seen : List ℕ) (s : ℕ) : Type 0 where
  pub cells : length table ≡ cell_count
  pub slot : s < slot_count
  pub marks : Seen (state_of table) seen s

-- a table, and a slot from which on its records are empty: test 12 looks no further
pub record UpTo (table : List ℕ) (end : ℕ) : Type 0 where
  pub size : length table ≡ cell_count
  pub low : end ≤ slot_count
  pub empty : EmptyFrom (state_of table) end
