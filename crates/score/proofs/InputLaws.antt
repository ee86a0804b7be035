-- What test 12 gives of the numbers that a score is made of: their ranges, and the signs of the weights.
-- Assumes nothing.
use Prim.Native.Nat.{ℕ, ◌<◌, ◌≤◌}
use mathlib.Core.Path.{◌≡◌, refl}
use mathlib.Core.Bool.{true}
use native.Mathlib.Omega.{arith}
use lib.Dec.{lit<}
use lib.IntN.{pos, neg_ℤ}
use Rattle.limits.specs.Limits.{limits, limit_at}
use Rattle.limits.specs.Limits.{place as topicPlace}
use Rattle.limits.proofs.LimitLaws.{topic_field}
use Rattle.limits.proofs.FieldLaws.{gain_of, loss_of}
use Rattle.params.proofs.ParamLaws.{within, general, topic}
use Rattle.records.specs.Records.{State, topic_count, place, code_in, peer_in, topic_in, slot_count}
use Rattle.validity.specs.Valid.{topic_param, valid}
use Rattle.validity.proofs.ValidLaws.{Facts, valid_facts}
use Rattle.score.specs.Ranges.{TopicParamsIn, ScoreParamsIn, CountersIn, CountersWithin}
use Rattle.score.specs.Score.{param_in, magnitude_in, topic_params_in, score_params_in}
use Rattle.score.proofs.CounterLaws.{within_in}

-- the signs of the weights in a state: the parameters as their magnitudes give them
pub record TopicSigns (st : State) (t : ℕ) : Type 0 where
  pub weight : pos (magnitude_in st (topicPlace t 0)) ≡ param_in st (topicPlace t 0)
  pub w1 : pos (magnitude_in st (topicPlace t 1)) ≡ param_in st (topicPlace t 1)
  pub w2 : pos (magnitude_in st (topicPlace t 4)) ≡ param_in st (topicPlace t 4)
  pub w3 : neg_ℤ (pos (magnitude_in st (topicPlace t 7))) ≡ param_in st (topicPlace t 7)
  pub w3b : neg_ℤ (pos (magnitude_in st (topicPlace t 12))) ≡ param_in st (topicPlace t 12)
  pub w4 : neg_ℤ (pos (magnitude_in st (topicPlace t 14))) ≡ param_in st (topicPlace t 14)

pub record GeneralSigns (st : State) : Type 0 where
  pub w5 : pos (magnitude_in st 13) ≡ param_in st 13
  pub w6 : neg_ℤ (pos (magnitude_in st 14)) ≡ param_in st 14
  pub w7 : neg_ℤ (pos (magnitude_in st 16)) ≡ param_in st 16

-- every number that slot s's score is made of is in its range
pub record SlotIn (st : State) (s : ℕ) : Type 0 where
  pub params : (t : ℕ) → t < topic_count → TopicParamsIn (topic_params_in st t)
  pub general : ScoreParamsIn (score_params_in st)
  pub counters : (t : ℕ) → t < topic_count → CountersIn (topic_in st (place s t))
  pub topic_signs : (t : ℕ) → t < topic_count → TopicSigns st t
  pub general_signs : GeneralSigns st
  pub p5 : (peer_in st s).p5 ≤ 2000000000
  pub p7 : (peer_in st s).p7 ≤ 1000000

module _ (st : State) (ok : valid st ≡ true) where
  facts : Facts st
  facts = valid_facts st ok

  -- the parameters
  pub params_in : (t : ℕ) → t < 8 → TopicParamsIn (topic_params_in st t)
  unfolding topic_params_in code_in
  params_in t l =
      let p = topic st.codes facts.params t l in
      record {
        weight = p.weight_most;
        w1 = p.w1_most;
        quantum = p.quantum_least;
        cap1 = p.p1_cap_most;
        w2 = p.w2_most;
        decay2 = p.p2_decay_most;
        cap2 = p.p2_cap_most;
        w3 = p.w3_most;
        decay3 = p.p3_decay_most;
        cap3 = p.p3_cap_most;
        threshold = p.p3_threshold_most;
        activation = p.activation_most;
        w3b = p.w3b_most;
        decay3b = p.p3b_decay_most;
        w4 = p.w4_most;
        decay4 = p.p4_decay_most;
      }

  pub general_in : ScoreParamsIn (score_params_in st)
  unfolding score_params_in code_in
  general_in =
      let p = general st.codes facts.params in
      record {
        cap = p.topic_cap_most;
        w5 = p.w5_most;
        w6 = p.w6_most;
        threshold = p.p6_threshold_least;
        w7 = p.w7_most;
      }

  topic_signs_lem : (t : ℕ) → t < 8 → TopicSigns st t
  unfolding code_in limit_at limits
  topic_signs_lem t l =
      let c = st.codes in
      let a = within st.codes facts.params in
      record {
        weight = gain_of c a (topicPlace t 0) (omega arith) 19 (topic_field t 0 (lit< tt)) tt;
        w1 = gain_of c a (topicPlace t 1) (omega arith) 20 (topic_field t 1 (lit< tt)) tt;
        w2 = gain_of c a (topicPlace t 4) (omega arith) 23 (topic_field t 4 (lit< tt)) tt;
        w3 = loss_of c a (topicPlace t 7) (omega arith) 26 (topic_field t 7 (lit< tt)) tt;
        w3b = loss_of c a (topicPlace t 12) (omega arith) 31 (topic_field t 12 (lit< tt)) tt;
        w4 = loss_of c a (topicPlace t 14) (omega arith) 33 (topic_field t 14 (lit< tt)) tt;
      }

  general_signs_lem : GeneralSigns st
  unfolding code_in limit_at limits
  general_signs_lem =
      let c = st.codes in
      let a = within st.codes facts.params in
      record {
        w5 = gain_of c a 13 (lit< tt) 13 refl tt;
        w6 = loss_of c a 14 (lit< tt) 14 refl tt;
        w7 = loss_of c a 16 (lit< tt) 16 refl tt;
      }

  -- the counters of the peer in slot s
  module _ (s : ℕ) (h : s < slot_count) where
    pub counters_within : (t : ℕ) → t < 8 → CountersWithin (topic_params_in st t) (topic_in st (place s t))
    unfolding topic_params_in topic_param
    counters_within t l =
        let f = facts.topic s t h l in
        record { p2 = f.p2; p3 = f.p3; p4 = f.p4; p3b = f.p3b }

    pub slot_in : SlotIn st s
    slot_in =
        let f = facts.peer s h in
        record {
          params = params_in;
          general = general_in;
          counters = λ t l. within_in (topic_params_in st t) (topic_in st (place s t)) (params_in t l) (counters_within t l);
          topic_signs = topic_signs_lem;
          general_signs = general_signs_lem;
          p5 = f.p5;
          p7 = f.p7;
        }
