-- The calls with their arguments, and the range of each argument (answer 2).
use Rattle.std.specs.Prelude.{ℕ, ◌+◌, ◌-◌, Bool, true, cond, ◌&&◌, ◌||◌, List, eqb, leb, ltb, ℤ, nat_abs, length, get_or}
use Rattle.index.specs.Index.{every}
use Rattle.records.specs.declared.Groups.{Groups}
use Rattle.validity.specs.Valid.{max_time, max_id}

-- time first, then the arguments as in 01's trace
pub data Call : Type 0 where
  -- id, groups, flags (1 outbound + 2 explicit), protocol name
  connect : ℕ → ℕ → List ℕ → ℕ → List ℕ → Call
  -- id
  disconnect : ℕ → ℕ → Call
  -- topic
  join : ℕ → ℕ → Call
  leave : ℕ → ℕ → Call
  -- id, topic
  subscribe : ℕ → ℕ → ℕ → Call
  unsubscribe : ℕ → ℕ → ℕ → Call
  graft : ℕ → ℕ → ℕ → Call
  -- id, topic, seconds
  prune : ℕ → ℕ → ℕ → ℕ → Call
  -- id, topic, kind (1 first, 2 near-first, 3 invalid)
  deliver : ℕ → ℕ → ℕ → ℕ → Call
  -- id, P5
  rate : ℕ → ℕ → ℤ → Call
  -- 01's tidy: topic, whether opportunism is asked for (1 yes, 0 no), draw
  heartbeat : ℕ → ℕ → ℕ → List ℕ → Call
  decay : ℕ → Call
  -- id
  score : ℕ → ℕ → Call

abbrev pub time_of : Call → ℕ
time_of (connect time id groups flags name) = time
time_of (disconnect time id) = time
time_of (join time t) = time
time_of (leave time t) = time
time_of (subscribe time id t) = time
time_of (unsubscribe time id t) = time
time_of (graft time id t) = time
time_of (prune time id t seconds) = time
time_of (deliver time id t kind) = time
time_of (rate time id p5) = time
time_of (heartbeat time t ask order) = time
time_of (decay time) = time
time_of (score time id) = time

-- "Peer ids are 1 to 4,294,967,295."
abbrev pub id_ok : ℕ → Bool
id_ok id = leb 1 id && leb id 4294967295

-- "address group (32 bits)" (01); "one to four different address groups [..], lowest first; repeated or unsorted groups, or none, give 2"
-- (02, order 11): each group but the first is above the one before it
abbrev pub group_ok : List ℕ → ℕ → Bool
group_ok groups k = leb (get_or groups k 0) max_id && (eqb k 0 || ltb (get_or groups (k - 1) 0) (get_or groups k 0))

unfoldable pub groups_ok : List ℕ → Bool
groups_ok groups = leb 1 (length groups) && leb (length groups) 4 && every (length groups) (group_ok groups)

-- the groups as a record holds them: the group + 1, and 0 past the last
abbrev pub group_at : List ℕ → ℕ → ℕ
group_at groups k = cond (ltb k (length groups)) (get_or groups k 0 + 1) 0

unfoldable pub groups_of : List ℕ → Groups
groups_of groups =
    record { first = group_at groups 0; second = group_at groups 1; third = group_at groups 2; fourth = group_at groups 3 }

-- "8 topics (0 to 7)"
abbrev pub topic_ok : ℕ → Bool
topic_ok t = leb t 7

-- "Times are milliseconds, 0 to 2^40."
abbrev pub time_ok : ℕ → Bool
time_ok time = leb time max_time

-- what each call asks besides the time; a PRUNE's seconds have no range, and a draw has its own number (7)
abbrev pub arguments_ok : Call → Bool
arguments_ok (connect time id groups flags name) = id_ok id && (groups_ok groups && leb flags 3)
arguments_ok (disconnect time id) = id_ok id
arguments_ok (join time t) = topic_ok t
arguments_ok (leave time t) = topic_ok t
arguments_ok (subscribe time id t) = id_ok id && topic_ok t
arguments_ok (unsubscribe time id t) = id_ok id && topic_ok t
arguments_ok (graft time id t) = id_ok id && topic_ok t
arguments_ok (prune time id t seconds) = id_ok id && topic_ok t
arguments_ok (deliver time id t kind) = id_ok id && topic_ok t && (leb 1 kind && leb kind 3)
arguments_ok (rate time id p5) = id_ok id && leb (nat_abs p5) 1000000000
arguments_ok (heartbeat time t ask order) = topic_ok t && leb ask 1
arguments_ok (decay time) = true
arguments_ok (score time id) = id_ok id

unfoldable pub in_range : Call → Bool
in_range c = time_ok (time_of c) && arguments_ok c
