-- What the inner functions of a heartbeat rely on. No public call asks it of its caller.
use Rattle.std.specs.Prelude.{ℕ, ◌≤◌, ◌<◌, ◌≡◌, Bool, true, not, ◌&&◌, List, length, get_or, eqb}
use Rattle.records.specs.Records.{State, slot_count, topic_count, is_connected, peer_in}
use Rattle.layout.specs.View.{state_of}
use Rattle.sets.specs.Sets.{by_slot, is_permutation}
use Rattle.rules.specs.Step.{action_room, height_in, is_negative, past_slack}
use Rattle.effects.specs.Effects.{is_member, is_subscribed}
use Rattle.peer_score.specs.Standing.{Standing}
use Rattle.gate.specs.Ready.{Ready}

-- behind the tests: a topic, a list with room, and a permutation of the slots
pub record Maintains (table list order : List ℕ) (time t : ℕ) : Type 0 where
  pub ready : Ready table time
  pub topic : t < topic_count
  pub room : action_room ≤ length list
  pub permutation : is_permutation slot_count order ≡ true

-- n is the score of the peer in slot s, and l are the scores of all
pub record ScoredAt (table : List ℕ) (t s n : ℕ) : Type 0 where
  pub standing : Standing table
  pub topic : t < topic_count
  pub slot : s < slot_count
  pub score : n ≡ height_in (state_of table) s

pub record ScoredAll (table l : List ℕ) (t : ℕ) : Type 0 where
  pub standing : Standing table
  pub topic : t < topic_count
  pub scores : l ≡ by_slot slot_count (height_in (state_of table))

-- a candidate in two halves: what words by slot tell, and what is asked of each slot that they leave
unfoldable pub is_eligible : State → ℕ → ℕ → Bool
is_eligible st t s =
    is_connected (peer_in st s) && (is_subscribed st t s && (eqb (peer_in st s).explicit 0 && not (is_member st t s)))

unfoldable pub is_free : State → ℕ → ℕ → ℕ → Bool
is_free st time t s = not (is_negative st s) && past_slack (get_or (peer_in st s).backoff t 0) time
