-- The scores by slot, moved up so that none is negative: of which slots they are there.
use Rattle.std.specs.Prelude.{ℕ, ◌<◌, ◌≡◌, Bool, true, false, List, length, get_or}
use Rattle.records.specs.Records.{State, slot_count, topic_count, peer_in}
use Rattle.layout.specs.View.{state_of}
use Rattle.sets.specs.Sets.{at, by_slot}
use Rattle.effects.specs.Effects.{is_member}
use Rattle.rules.specs.Step.{height_in}
use Rattle.peer_score.specs.Standing.{Standing}
use Rattle.peer_score.specs.declared.buckets.Buckets.{Buckets}
use Rattle.peer_score.specs.Buckets.{Counted}

-- of a set's slots, and of the empty ones
abbrev pub HeightsOn : State → List Bool → List ℕ → Type 0
HeightsOn st set heights = (s : ℕ) → s < slot_count → at set s ≡ true → get_or heights s 0 ≡ height_in st s

abbrev pub EmptyHeights : State → List ℕ → Type 0
EmptyHeights st heights = (s : ℕ) → s < slot_count → (peer_in st s).status ≡ 0 → get_or heights s 0 ≡ height_in st s

-- the scores of a set's slots were taken, those of the others stand
pub record Taken (st : State) (set : List Bool) (before after : List ℕ) : Type 0 where
  pub size : length after ≡ length before
  pub taken : HeightsOn st set after
  pub kept : (s : ℕ) → at set s ≡ false → get_or after s 0 ≡ get_or before s 0

-- what taking them relies on: the connected peers counted by group, and a number for each slot
pub record Taking (table : List ℕ) (b : Buckets) (heights : List ℕ) : Type 0 where
  pub standing : Standing table
  pub buckets : Counted table b
  pub size : length heights ≡ slot_count

-- what taking the others' relies on: the members' are there, and those of empty slots
pub record Partial (table : List ℕ) (b : Buckets) (t : ℕ) (heights : List ℕ) : Type 0 where
  pub taking : Taking table b heights
  pub topic : t < topic_count
  pub members : HeightsOn (state_of table) (by_slot slot_count (is_member (state_of table) t)) heights
  pub empty : EmptyHeights (state_of table) heights

-- what the meshes are made from: nothing but the scores of empty slots
pub record Unscored (table : List ℕ) (t : ℕ) (heights : List ℕ) : Type 0 where
  pub standing : Standing table
  pub topic : t < topic_count
  pub size : length heights ≡ slot_count
  pub empty : EmptyHeights (state_of table) heights
