-- Grafts in the order of the permutation, with scores that are taken where they are asked for.
use Rattle.std.specs.Prelude.{ℕ, ◌≤◌, ◌<◌, ◌≡◌, Bool, true, false, ◌&&◌, List, length, get_or, leb}
use Rattle.records.specs.Records.{State, slot_count, topic_count}
use Rattle.layout.specs.View.{state_of}
use Rattle.sets.specs.Sets.{at, size, fill}
use Rattle.mesh.specs.Maintenance.{mesh1, mesh2}
use Rattle.rules.specs.Step.{height_in, degrees_in, view_in}
use Rattle.peer_score.specs.declared.buckets.Buckets.{Buckets}
use Rattle.peer_score.specs.declared.weights.TopicWeights.{TopicWeights}
use Rattle.peer_score.specs.Weights.{Weights}
use Rattle.heartbeat.specs.Ready.{is_free}
use Rattle.heartbeat.specs.Heights.{HeightsOn, Taking, Partial}

-- what is asked of an eligible peer: score and backoff as of any candidate, and at least this score
unfoldable pub is_wanted : State → ℕ → ℕ → ℕ → ℕ → Bool
is_wanted st time t least s = is_free st time t s && leb least (height_in st s)

-- c has those of p that are wanted
pub record WantedOf (st : State) (time t least : ℕ) (p c : List Bool) : Type 0 where
  pub here : (s : ℕ) → s < slot_count → at c s ≡ at p s && is_wanted st time t least s
  pub past : (s : ℕ) → slot_count ≤ s → at c s ≡ false

-- what is relied on: the connected peers counted by group, the weights, a topic
pub record Grafting (table : List ℕ) (b : Buckets) (w : TopicWeights) (t : ℕ) (heights : List ℕ) : Type 0 where
  pub taking : Taking table b heights
  pub weights : Weights (state_of table) w
  pub topic : t < topic_count

-- a score that was right stays so
abbrev pub Kept : State → List ℕ → List ℕ → Type 0
Kept st before after = (s : ℕ) → s < slot_count → get_or before s 0 ≡ height_in st s → get_or after s 0 ≡ height_in st s

-- the answer b for the slot s, which `takes` tells whether to ask; the score of a slot that is put in is there
pub record Asked (st : State) (time t least s : ℕ) (takes b : Bool) (before after : List ℕ) : Type 0 where
  pub answer : b ≡ takes && is_wanted st time t least s
  pub size : length after ≡ length before
  pub kept : Kept st before after
  pub scored : b ≡ true → get_or after s 0 ≡ height_in st s

-- the scores of r are there where those of m were
pub record Scored (st : State) (m r : List Bool) (before after : List ℕ) : Type 0 where
  pub size : length after ≡ length before
  pub kept : Kept st before after
  pub scored : HeightsOn st m before → HeightsOn st r after

-- r is m with the first k of the wanted of p
pub record Grafted (st : State) (time t least : ℕ) (p : List Bool) (k : ℕ) (order : List ℕ) (m r : List Bool) (before after : List ℕ)
    : Type 0 where
  pub mesh : (c : List Bool) → WantedOf st time t least p c → r ≡ fill c k order m
  pub scores : Scored st m r before after

-- what the steps after the first rely on: what taking all scores does, and that first step's mesh
pub record Begun (table : List ℕ) (b : Buckets) (t : ℕ) (heights : List ℕ) (time ask : ℕ) (order : List ℕ) (first : List Bool)
    : Type 0 where
  pub partial : Partial table b t heights
  pub mesh : first ≡ mesh1 (view_in (state_of table) time t ask order)
  pub scores : HeightsOn (state_of table) first heights

-- what the last three rely on: the meshes of the first two, which the third leaves, and the scores of the second's members
pub record Halfway (st : State) (time t ask : ℕ) (order : List ℕ) (m₁ m₂ : List Bool) (heights : List ℕ) : Type 0 where
  pub first : m₁ ≡ mesh1 (view_in st time t ask order)
  pub second : m₂ ≡ mesh2 (degrees_in st) (view_in st time t ask order) m₁
  pub few : size m₂ ≤ (degrees_in st).hi
  pub scores : HeightsOn st m₂ heights
