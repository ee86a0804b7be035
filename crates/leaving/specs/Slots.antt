-- One turn of leave's walk, from the state as it stands at that turn. The rules' own words, which go by the call's start, are `punished`,
-- `leave_slot` and `leave_actions` of crate rules; that the two agree is proved (proofs/LeaveLaws.antt).
use Rattle.std.specs.Prelude.{ℕ, ◌+◌, ◌*◌, ◌≤◌, ◌<◌, ◌≡◌, Bool, false, cond, ◌&&◌, List, [], ◌∷◌, length, get_or}
use Rattle.std.proofs.lemmas.List.Edits.{sets}
use Rattle.index.specs.Index.{iter}
use Rattle.records.specs.Records.{State, slot_count, peer_in}
use Rattle.layout.specs.View.{cell_count, state_of}
use Rattle.score.specs.Score.{topic_params_in}
use Rattle.score.specs.Counters.{grown_of}
use Rattle.effects.specs.Actions.{Action, prune_of, numbers_of}
use Rattle.effects.specs.Effects.{on_topic, is_member, pruned, unsubscribe_backoff}
use Rattle.rules.specs.Step.{is_negative, leave_slot, leave_actions, action_room}
use Rattle.peer_score.specs.Standing.{Standing}

-- whose P3b is to grow: a member that scores below zero
abbrev pub is_negative_member : State → ℕ → ℕ → Bool
is_negative_member st t s = is_member st t s && is_negative st s

-- P3b of slot s grows in topic t, if its score was negative
unfoldable pub grown_if : Bool → ℕ → ℕ → State → State
grown_if negative t s u = cond negative (on_topic u s t (grown_of (topic_params_in u t))) u

-- slot s is pruned in topic t, if it is a member
unfoldable pub left_if : Bool → ℕ → ℕ → ℕ → State → State
left_if negative t end s u = cond (is_member u t s) (pruned (grown_if negative t s u) s t end) u

-- and its action
unfoldable pub action_if : State → ℕ → ℕ → ℕ → List Action
action_if u t seconds s = cond (is_member u t s) (prune_of (peer_in u s) seconds ∷ []) []

-- what a turn relies on: a slot and a topic of a table, and numbers that fit their width
pub record Turn (table : List ℕ) (t s : ℕ) : Type 0 where
  pub size : length table ≡ cell_count
  pub topic : t < 8
  pub slot : s < slot_count
  pub threshold : (topic_params_in (state_of table) t).threshold ≤ 1000000
  pub id : (peer_in (state_of table) s).id ≤ 4294967295

-- and room in the list for its action
pub record LeaveTurn (table list : List ℕ) (t s at n : ℕ) : Type 0 where
  pub turn : Turn table t s
  pub room : at + 3 ≤ length list
  pub seconds : n ≤ 4294967295

-- what a turn leaves: the state u becomes that of table', and its action stands in the list from `at` on, up to `next`
pub record Turned (u : State) (negative : Bool) (t end seconds s : ℕ) (table' list list' : List ℕ) (at next : ℕ) : Type 0 where
  pub state : state_of table' ≡ left_if negative t end s u
  pub actions : list' ≡ sets list at (numbers_of (action_if u t seconds s))
  pub after : next ≡ at + 3 * length (action_if u t seconds s)

-- what the walk relies on; the flags say which members score below zero at the start
pub record Walk (table : List ℕ) (t seconds : ℕ) (flags : List Bool) (list : List ℕ) : Type 0 where
  pub standing : Standing table
  pub topic : t < 8
  pub backoff : seconds ≡ unsubscribe_backoff (state_of table)
  pub negatives : (s : ℕ) → s < slot_count → get_or flags s false ≡ is_negative_member (state_of table) t s
  pub room : action_room ≤ length list

-- what it leaves: n numbers were written
pub record Walked (st : State) (t end : ℕ) (table' list list' : List ℕ) (n : ℕ) : Type 0 where
  pub state : state_of table' ≡ iter slot_count (leave_slot st t end) st
  pub actions : list' ≡ sets list 0 (numbers_of (leave_actions st t slot_count))
  pub count : n ≡ 3 * length (leave_actions st t slot_count)
