-- The ranges of the numbers that a score is made of: those of the parameters (01, "The sheet"), without their sign, and of the counters
-- ("P4 and P7 stop at 10^6, P3b at 10^12"; P2 and P3 stop at caps of at most 10^6; P5 is ±10^9).
use Rattle.std.specs.Prelude.{ℕ, ◌≤◌}
use Rattle.records.specs.declared.TopicRecord.{TopicRecord}
use Rattle.records.specs.Records.{slot_count}
use Rattle.score.specs.declared.TopicParams.{TopicParams}
use Rattle.score.specs.declared.ScoreParams.{ScoreParams}
use Rattle.score.specs.declared.Sharers.{Sharers}
use Rattle.score.specs.declared.Balance.{Balance}
use Rattle.score.specs.declared.Parts.{Parts}

pub record TopicParamsIn (t : TopicParams) : Type 0 where
  pub weight : t.weight ≤ 1000
  pub w1 : t.w1 ≤ 100
  pub quantum : 1 ≤ t.quantum
  pub cap1 : t.cap1 ≤ 1000
  pub w2 : t.w2 ≤ 100
  pub decay2 : t.decay2 ≤ 999
  pub cap2 : t.cap2 ≤ 1000000
  pub w3 : t.w3 ≤ 100
  pub decay3 : t.decay3 ≤ 999
  pub cap3 : t.cap3 ≤ 1000000
  pub threshold : t.threshold ≤ 1000000
  pub activation : t.activation ≤ 3600000
  pub w3b : t.w3b ≤ 100
  pub decay3b : t.decay3b ≤ 999
  pub w4 : t.w4 ≤ 100
  pub decay4 : t.decay4 ≤ 999

pub record ScoreParamsIn (g : ScoreParams) : Type 0 where
  pub cap : g.cap ≤ 1000000000
  pub w5 : g.w5 ≤ 100
  pub w6 : g.w6 ≤ 100
  pub threshold : 1 ≤ g.threshold
  pub w7 : g.w7 ≤ 100

pub record CountersIn (r : TopicRecord) : Type 0 where
  pub p2 : r.p2 ≤ 1000000
  pub p3 : r.p3 ≤ 1000000
  pub p4 : r.p4 ≤ 1000000
  pub p3b : r.p3b ≤ 1000000000000

-- the counters of a topic's record to their own caps
pub record CountersWithin (t : TopicParams) (r : TopicRecord) : Type 0 where
  pub p2 : r.p2 ≤ t.cap2
  pub p3 : r.p3 ≤ t.cap3
  pub p4 : r.p4 ≤ 1000000
  pub p3b : r.p3b ≤ 1000000000000

-- one topic's share, and eight of them
pub record ShareIn (b : Balance) : Type 0 where
  pub gain : b.gain ≤ 300000000000000000
  pub loss : b.loss ≤ 300000000000000000

pub record TopicsIn (b : Balance) : Type 0 where
  pub gain : b.gain ≤ 2400000000000000000
  pub loss : b.loss ≤ 2400000000000000000

-- how many connected peers hold each of a peer's groups
pub record SharersIn (n : Sharers) : Type 0 where
  pub first : n.first ≤ slot_count
  pub second : n.second ≤ slot_count
  pub third : n.third ≤ slot_count
  pub fourth : n.fourth ≤ slot_count

-- 4 × 255²: four groups that all 256 slots share, over a threshold of 1
abbrev pub crowd_most : ℕ
crowd_most = 260100

-- 100 × 4 × 255² × 10^9
abbrev pub p6_most : ℕ
p6_most = 26010000000000000

pub record PartsIn (p : Parts) : Type 0 where
  pub topics : TopicsIn p.topics
  pub capped : TopicsIn p.capped
  pub gain5 : p.p5.gain ≤ 100000000000000
  pub loss5 : p.p5.loss ≤ 100000000000000
  pub p6 : p.p6 ≤ p6_most
  pub p7 : p.p7 ≤ 100000000000000000

-- "No score passes 2.6 × 10^18 either way."
abbrev pub score_most : ℕ
score_most = 2600000000000000000

pub record BalanceIn (b : Balance) : Type 0 where
  pub gain : b.gain ≤ score_most
  pub loss : b.loss ≤ score_most
