-- A topic's weight times the weights of P2, P3b and P4, multiplied out once for all slots: outside the mesh, where most peers are, a share
-- is three products of them.
use Rattle.std.specs.Prelude.{ℕ, ◌+◌, ◌*◌, ◌≤◌, ◌<◌, ◌≡◌, List, get_or}
use Rattle.limits.specs.Limits.{place as topicPlace}
use Rattle.records.specs.declared.TopicRecord.{TopicRecord}
use Rattle.records.specs.Records.{State, topic_count}
use Rattle.records.specs.Parameters.{weight_at, w2_at, w3b_at, w4_at}
use Rattle.layout.specs.View.{state_of}
use Rattle.score.specs.declared.Balance.{Balance}
use Rattle.score.specs.Ranges.{CountersIn}
use Rattle.score.specs.Parts.{part2_of, part3b_of, part4_of}
use Rattle.score.specs.Score.{magnitude_in}
use Rattle.peer_score.specs.declared.weights.TopicWeights.{TopicWeights}
use Rattle.peer_score.specs.Standing.{Standing, SlotStanding, PlaceStanding}

-- w has each topic's weight times its j-th parameter
abbrev pub Weighed : State → ℕ → List ℕ → Type 0
Weighed st j w =
    (t : ℕ) → t < topic_count → get_or w t 0 ≡ magnitude_in st (topicPlace t weight_at) * magnitude_in st (topicPlace t j)

-- the weights of P2, P3b and P4
pub record Weights (st : State) (w : TopicWeights) : Type 0 where
  pub p2 : Weighed st w2_at w.w2
  pub p3b : Weighed st w3b_at w.w3b
  pub p4 : Weighed st w4_at w.w4

-- the share of a record outside the mesh
abbrev pub outside_of : (w2 w3b w4 : ℕ) → TopicRecord → Balance
outside_of w2 w3b w4 r = record { gain = w2 * part2_of r; loss = w3b * part3b_of r + w4 * part4_of r }

-- what multiplying out relies on: the j-th parameters are weights
pub record Weighing (table : List ℕ) (j : ℕ) : Type 0 where
  pub standing : Standing table
  pub param : j < 16
  pub most : (t : ℕ) → t < topic_count → magnitude_in (state_of table) (topicPlace t j) ≤ 100

pub record OutsideIn (w2 w3b w4 : ℕ) (r : TopicRecord) : Type 0 where
  pub p2 : w2 ≤ 100000
  pub p3b : w3b ≤ 100000
  pub p4 : w4 ≤ 100000
  pub counters : CountersIn r

-- the weights, and a topic of a slot, or all of a slot's
pub record PlaceWeighed (table : List ℕ) (w : TopicWeights) (t s : ℕ) : Type 0 where
  pub place : PlaceStanding table t s
  pub weights : Weights (state_of table) w

pub record SlotWeighed (table : List ℕ) (w : TopicWeights) (s : ℕ) : Type 0 where
  pub at : SlotStanding table s
  pub weights : Weights (state_of table) w
