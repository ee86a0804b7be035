-- A peer's score from the router's state: the parameters' own signed numbers, the peer's record, and the number of connected peers that
-- hold each of its groups. `why_in` is 01's formula with its parts, `score_in` its score; `balance_at` is what the code computes, and worth
-- the same (proofs/ScoreLaws.antt).
use Rattle.std.specs.Prelude.{ℕ, ◌<◌, ◌≡◌, Bool, cond, ◌&&◌, eqb, ℤ}
use Rattle.index.specs.Index.{count}
use Rattle.varint.specs.Codes.{number_of, magnitude}
use Rattle.limits.specs.Limits.{place as topicPlace}
use Rattle.records.specs.Records.{State, slot_count, topic_count, place, code_in, peer_in, topic_in, is_connected}
use Rattle.records.specs.Records.{holds_group}
use Rattle.records.specs.declared.Groups.{Groups}
use Rattle.records.specs.Parameters.{topic_cap_at, w5_at, w6_at, p6_threshold_at, w7_at, weight_at, w1_at, p1_quantum_at, p1_cap_at, w2_at, p2_decay_at}
use Rattle.records.specs.Parameters.{p2_cap_at, w3_at, p3_decay_at, p3_cap_at, p3_threshold_at, p3_activation_at, w3b_at, p3b_decay_at, w4_at, p4_decay_at}
use Rattle.score.specs.declared.TopicParams.{TopicParams}
use Rattle.score.specs.declared.ScoreParams.{ScoreParams}
use Rattle.score.specs.declared.Sharers.{Sharers}
use Rattle.score.specs.declared.Balance.{Balance}
use Rattle.score.specs.declared.Parts.{Parts}
use Rattle.score.specs.declared.Why.{Why}
use Rattle.score.specs.Ranges.{BalanceIn}
use Rattle.score.specs.Parts.{part1_of, part2_of, part3_of, part3b_of, part4_of, crowd_of}
use Rattle.score.specs.Formula.{topic_sum, all_topics, why_of}
use Rattle.score.specs.Sums.{worth, share_of, sum_of, parts_of, total_of}

-- parameter i with its sign, and its magnitude. Topic t's j-th parameter is at `topicPlace t j`.
abbrev pub param_in : State → ℕ → ℤ
param_in st i = number_of (code_in st i)

abbrev pub magnitude_in : State → ℕ → ℕ
magnitude_in st i = magnitude (code_in st i)

unfoldable pub topic_params_in : State → ℕ → TopicParams
topic_params_in st t =
    record {
      weight = magnitude_in st (topicPlace t weight_at);
      w1 = magnitude_in st (topicPlace t w1_at);
      quantum = magnitude_in st (topicPlace t p1_quantum_at);
      cap1 = magnitude_in st (topicPlace t p1_cap_at);
      w2 = magnitude_in st (topicPlace t w2_at);
      decay2 = magnitude_in st (topicPlace t p2_decay_at);
      cap2 = magnitude_in st (topicPlace t p2_cap_at);
      w3 = magnitude_in st (topicPlace t w3_at);
      decay3 = magnitude_in st (topicPlace t p3_decay_at);
      cap3 = magnitude_in st (topicPlace t p3_cap_at);
      threshold = magnitude_in st (topicPlace t p3_threshold_at);
      activation = magnitude_in st (topicPlace t p3_activation_at);
      w3b = magnitude_in st (topicPlace t w3b_at);
      decay3b = magnitude_in st (topicPlace t p3b_decay_at);
      w4 = magnitude_in st (topicPlace t w4_at);
      decay4 = magnitude_in st (topicPlace t p4_decay_at);
    }

-- topic cap, w5, w6, P6 threshold, w7
unfoldable pub score_params_in : State → ScoreParams
score_params_in st =
    record {
      cap = magnitude_in st topic_cap_at;
      w5 = magnitude_in st w5_at;
      w6 = magnitude_in st w6_at;
      threshold = magnitude_in st p6_threshold_at;
      w7 = magnitude_in st w7_at;
    }

-- "how many connected peers share its group, itself counted" (01); "counting connected peers that hold the group" (02, order 11)
unfoldable pub shares_group : State → ℕ → ℕ → Bool
shares_group st group s = is_connected (peer_in st s) && holds_group (peer_in st s).groups group

unfoldable pub sharing : State → ℕ → ℕ
sharing st group = count slot_count (shares_group st group)

-- of each of a peer's groups; 0 stands for none
unfoldable pub sharing_at : State → ℕ → ℕ
sharing_at st group = cond (eqb group 0) 0 (sharing st group)

unfoldable pub sharers_of : State → Groups → Sharers
sharers_of st g =
    record {
      first = sharing_at st g.first;
      second = sharing_at st g.second;
      third = sharing_at st g.third;
      fourth = sharing_at st g.fourth;
    }

-- topic t's sum for the peer in slot s
unfoldable pub topic_score : State → ℕ → ℕ → ℤ
topic_score st s t =
    topic_sum
    (param_in st (topicPlace t weight_at))
    (param_in st (topicPlace t w1_at))
    (param_in st (topicPlace t w2_at))
    (param_in st (topicPlace t w3_at))
    (param_in st (topicPlace t w3b_at))
    (param_in st (topicPlace t w4_at))
    (part1_of (topic_params_in st t) (topic_in st (place s t)))
    (part2_of (topic_in st (place s t)))
    (part3_of (topic_params_in st t) (topic_in st (place s t)))
    (part3b_of (topic_in st (place s t)))
    (part4_of (topic_in st (place s t)))

-- the score of the peer in slot s and its parts, in 10^-9 points
unfoldable pub why_in : State → ℕ → Why
why_in st s =
    why_of
    (magnitude_in st topic_cap_at)
    (all_topics topic_count (topic_score st s))
    (param_in st w5_at)
    (number_of (peer_in st s).p5)
    (param_in st w6_at)
    (crowd_of (magnitude_in st p6_threshold_at) (sharers_of st (peer_in st s).groups))
    (param_in st w7_at)
    (peer_in st s).p7

-- "All score work takes it from this answer."
unfoldable pub score_in : State → ℕ → ℤ
score_in st s = (why_in st s).score

-- the same as what is gained and what is lost
unfoldable pub share_at : State → ℕ → ℕ → Balance
share_at st s t = share_of (topic_params_in st t) (topic_in st (place s t))

unfoldable pub parts_at : State → ℕ → Parts
parts_at st s =
    parts_of
    (score_params_in st)
    (sum_of topic_count (share_at st s))
    (peer_in st s).p5
    (sharers_of st (peer_in st s).groups)
    (peer_in st s).p7

unfoldable pub balance_at : State → ℕ → Balance
balance_at st s = total_of (parts_at st s)

-- what a computed balance is
pub record Scores (st : State) (s : ℕ) (b : Balance) : Type 0 where
  pub is : b ≡ balance_at st s
  pub score : worth b ≡ score_in st s
  pub range : BalanceIn b

-- "One peer's score depends on its own record, the sheet, and the number of connected peers in its group" (01), with order 11 in each
-- of its groups: the peers in slot s of st and slot u of another state agree in these
pub record Agree (st : State) (s : ℕ) (other : State) (u : ℕ) : Type 0 where
  pub codes : (i : ℕ) → code_in st i ≡ code_in other i
  pub topics : (t : ℕ) → t < topic_count → topic_in st (place s t) ≡ topic_in other (place u t)
  pub p5 : (peer_in st s).p5 ≡ (peer_in other u).p5
  pub p7 : (peer_in st s).p7 ≡ (peer_in other u).p7
  pub sharers : sharers_of st (peer_in st s).groups ≡ sharers_of other (peer_in other u).groups
