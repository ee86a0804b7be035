-- What a decay relies on from record to record once the first tests are passed. No public call asks it of its caller.
use Rattle.std.specs.Prelude.{ℕ, ◌<◌, ◌≤◌, ◌≡◌, true, false, List, length, get_or}
use Rattle.records.specs.Records.{State, slot_count, topic_count, place, code_in, peer_in, topic_in}
use Rattle.layout.specs.View.{cell_count, state_of}
use Rattle.score.specs.Ranges.{TopicParamsIn, CountersIn}
use Rattle.score.specs.Score.{topic_params_in}
use Rattle.score.specs.Counters.{count_most}
use Rattle.varint.specs.Codes.{magnitude}
use Rattle.words.specs.Words.{word_bits, bits}
use Rattle.peer_score.specs.Idle.{is_idle}
use Rattle.rules.specs.Step.{decay_floor}

-- the parameters and the counters are in their ranges
pub record Decays (st : State) : Type 0 where
  pub params : (t : ℕ) → t < topic_count → TopicParamsIn (topic_params_in st t)
  pub floor : decay_floor st ≤ 1000
  pub factor : magnitude (code_in st 17) ≤ 999
  pub counters : (s t : ℕ) → s < slot_count → t < topic_count → CountersIn (topic_in st (place s t))
  pub p7 : (s : ℕ) → s < slot_count → (peer_in st s).p7 ≤ count_most

-- in a slot of a table, and in one of its topics too
pub record DecaysIn (table : List ℕ) (s : ℕ) : Type 0 where
  pub size : length table ≡ cell_count
  pub decays : Decays (state_of table)
  pub slot : s < slot_count

pub record DecaysAt (table : List ℕ) (t s : ℕ) : Type 0 where
  pub size : length table ≡ cell_count
  pub decays : Decays (state_of table)
  pub topic : t < topic_count
  pub slot : s < slot_count

-- of the first n topics, those whose bit in w is clear have an idle record in slot s
abbrev pub IdleBelow : State → ℕ → ℕ → ℕ → Type 0
IdleBelow st s n w = (t : ℕ) → t < n → get_or (bits word_bits w) t false ≡ false → is_idle (topic_in st (place s t)) ≡ true

-- r is the lowest topic of the word w from t on, or the count of the topics
pub record NextTopic (w t r : ℕ) : Type 0 where
  pub later : t ≤ r
  pub most : r ≤ topic_count
  pub none : (k : ℕ) → t ≤ k → k < r → get_or (bits word_bits w) k false ≡ false
