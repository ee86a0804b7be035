-- What 01 and 02 say of every score beside its formula (crate score, specs/Formula.antt and specs/Score.antt). To be changed with it.
use Rattle.std.specs.Prelude.{ℕ, ◌*◌, ◌<◌, ◌≤◌, ◌≡◌, true, false, ◌&&◌, eqb, pos, nat_abs, ◌+ℤ◌, ◌*ℤ◌}
use Rattle.std.specs.Int.Signed.{le_z}
use Rattle.index.specs.Index.{count}
use Rattle.records.specs.declared.Groups.{Groups}
use Rattle.records.specs.Records.{State, slot_count, topic_count, place, code_in, peer_in, topic_in, is_connected}
use Rattle.records.specs.Parameters.{topic_cap_at, w6_at, p6_threshold_at}
use Rattle.validity.specs.Valid.{valid}
use Rattle.score.specs.declared.Why.{Why}
use Rattle.score.specs.Parts.{square, surplus_of}
use Rattle.score.specs.Score.{param_in, magnitude_in, sharing, sharers_of, why_in, score_in}

-- "No score passes 2.6 × 10^18 either way.": in no router's state, of no slot
abbrev pub NoScorePasses : Type 0
NoScorePasses =
    (st : State) (s : ℕ) → valid st ≡ true → s < slot_count → nat_abs (score_in st s) ≤ 2600000000000000000

-- nor does a part: each has a bound of its own, by the ranges of the parameters and counters
pub record PartsWithin (w : Why) : Type 0 where
  -- 8 topics × 1000 × 100 × 3 × 10^12
  pub topics : nat_abs w.topics ≤ 2400000000000000000
  pub capped : nat_abs w.capped ≤ 2400000000000000000
  -- 100 × 10^9 × 1000; 100 × 4 × 255² × 10^9; 100 × 10^12 × 1000
  pub p5 : nat_abs w.p5 ≤ 100000000000000
  pub p6 : nat_abs w.p6 ≤ 26010000000000000
  pub p7 : nat_abs w.p7 ≤ 100000000000000000

abbrev pub NoPartPasses : Type 0
NoPartPasses = (st : State) (s : ℕ) → valid st ≡ true → s < slot_count → PartsWithin (why_in st s)

-- "One peer's score depends on its own record, the sheet, and the number of connected peers in its group, and on nothing else." (01), with
-- order 11 in each of its groups: the peer in slot s of a state and the one in slot u of another, of any two states
abbrev pub DependsOnNothingElse : Type 0
DependsOnNothingElse =
    (st : State) (s : ℕ) (other : State) (u : ℕ) →
    -- the sheet
    ((i : ℕ) → code_in st i ≡ code_in other i) →
    -- its own record: P5, the P7 counter, and what it holds for each topic
    (peer_in st s).p5 ≡ (peer_in other u).p5 →
    (peer_in st s).p7 ≡ (peer_in other u).p7 →
    ((t : ℕ) → t < topic_count → topic_in st (place s t) ≡ topic_in other (place u t)) →
    -- the number of connected peers in its groups
    sharers_of st (peer_in st s).groups ≡ sharers_of other (peer_in other u).groups →
    -- the score, and each of its parts
    (score_in st s ≡ score_in other u) × (why_in st s ≡ why_in other u)

-- "the last four's sum being the score" (02, order 5)
abbrev pub LastFourAdd : Type 0
LastFourAdd =
    (st : State) (s : ℕ) →
    score_in st s ≡ (why_in st s).capped +ℤ (why_in st s).p5 +ℤ (why_in st s).p6 +ℤ (why_in st s).p7

-- "a non-zero topic cap × 1,000,000 bounds that total from above only"; the cap is the general number 12
pub record CapsFromAbove (st : State) (s : ℕ) : Type 0 where
  -- a cap of 0 is none
  pub none : magnitude_in st topic_cap_at ≡ 0 → (why_in st s).capped ≡ (why_in st s).topics
  -- a total that is no more than the cap stays as it is, however low
  pub below : le_z (why_in st s).topics (pos (magnitude_in st topic_cap_at * 1000000)) ≡ true → (why_in st s).capped ≡ (why_in st s).topics
  -- a higher one becomes the cap
  pub above :
      0 < magnitude_in st topic_cap_at →
      le_z (why_in st s).topics (pos (magnitude_in st topic_cap_at * 1000000)) ≡ false →
      (why_in st s).capped ≡ pos (magnitude_in st topic_cap_at * 1000000)

abbrev pub BoundsFromAboveOnly : Type 0
BoundsFromAboveOnly = (st : State) (s : ℕ) → CapsFromAbove st s

-- With order 11 a peer that holds one group fares as in 01: P6 is "w6 × surplus² × 10^9, the surplus being how many connected peers share
-- its group, itself counted, above the P6 threshold, or 0"
abbrev pub HoldsOne : Groups → Type 0
HoldsOne g = (1 ≤ g.first) × (g.second ≡ 0) × (g.third ≡ 0) × (g.fourth ≡ 0)

abbrev pub OneGroupAsBefore : Type 0
OneGroupAsBefore =
    (st : State) (s : ℕ) →
    HoldsOne (peer_in st s).groups →
    (why_in st s).p6
    ≡ param_in st w6_at
    *ℤ pos (square (surplus_of (magnitude_in st p6_threshold_at) (sharing st (peer_in st s).groups.first)))
    *ℤ pos 1000000000

-- and where all connected peers hold one, those that share a group are those of the same one
abbrev pub CountedAsBefore : Type 0
CountedAsBefore =
    (st : State) (group : ℕ) →
    1 ≤ group →
    ((s : ℕ) → s < slot_count → is_connected (peer_in st s) ≡ true → HoldsOne (peer_in st s).groups) →
    sharing st group ≡ count slot_count (λ s. is_connected (peer_in st s) && eqb (peer_in st s).groups.first group)

pub record ScoreClaims : Type 0 where
  pub most : NoScorePasses
  pub parts : NoPartPasses
  pub depends : DependsOnNothingElse
  pub sum : LastFourAdd
  pub cap : BoundsFromAboveOnly
  pub one_group : OneGroupAsBefore
  pub counted : CountedAsBefore
