-- `peer_score::load_params`: sixteen loaded numbers are the record of the rules.
-- Assumes nothing.
use Prim.Native.Nat.{ℕ, ◌<◌}
use mathlib.Core.Path.{◌≡◌}
use mathlib.Core.List.{List}
use lib.Dec.{lit<}
use Rattle.limits.specs.Limits.{place as topicPlace}
use Rattle.records.specs.Records.{State}
use Rattle.effects.specs.Lent.{AtTopic}
use Rattle.score.specs.Score.{magnitude_in, topic_params_in}
use Rattle.peer_score.specs.Standing.{AtTopicParam}
use Rattle.peer_score.proofs.load_params.Goals as goal

-- behind more places than a search enters
in-topic : {table : List ℕ} {t j : ℕ} → AtTopic table t → j < 16 → AtTopicParam table t j
in-topic h l = record { size = h.size; topic = h.topic; param = l }

-- the record of sixteen loaded numbers, over plain variables
made :
    (st : State) (t x0 x1 x2 x3 x4 x5 x6 x7 x8 x9 x10 x11 x12 x13 x14 x15 : ℕ) →
    x0 ≡ magnitude_in st (topicPlace t 0) →
    x1 ≡ magnitude_in st (topicPlace t 1) →
    x2 ≡ magnitude_in st (topicPlace t 2) →
    x3 ≡ magnitude_in st (topicPlace t 3) →
    x4 ≡ magnitude_in st (topicPlace t 4) →
    x5 ≡ magnitude_in st (topicPlace t 5) →
    x6 ≡ magnitude_in st (topicPlace t 6) →
    x7 ≡ magnitude_in st (topicPlace t 7) →
    x8 ≡ magnitude_in st (topicPlace t 8) →
    x9 ≡ magnitude_in st (topicPlace t 9) →
    x10 ≡ magnitude_in st (topicPlace t 10) →
    x11 ≡ magnitude_in st (topicPlace t 11) →
    x12 ≡ magnitude_in st (topicPlace t 12) →
    x13 ≡ magnitude_in st (topicPlace t 13) →
    x14 ≡ magnitude_in st (topicPlace t 14) →
    x15 ≡ magnitude_in st (topicPlace t 15) →
    record {
      weight = x0;
      w1 = x1;
      quantum = x2;
      cap1 = x3;
      w2 = x4;
      decay2 = x5;
      cap2 = x6;
      w3 = x7;
      decay3 = x8;
      cap3 = x9;
      threshold = x10;
      activation = x11;
      w3b = x12;
      decay3b = x13;
      w4 = x14;
      decay4 = x15;
    } ≡ topic_params_in st t
unfolding topic_params_in
made st t x0 x1 x2 x3 x4 x5 x6 x7 x8 x9 x10 x11 x12 x13 x14 x15 e0 e1 e2 e3 e4 e5 e6 e7 e8 e9 e10 e11 e12 e13 e14 e15 = cc

pub load_param-requires-15 : goal.load_param-requires-15
load_param-requires-15 c = in-topic
    c.requires
    (lit< tt)

pub load_param-requires-16 : goal.load_param-requires-16
load_param-requires-16 c = in-topic
    c.requires (lit< tt)

pub returns : goal.returns
returns c =
    made _ _ _ _ _ _ _ _ _ _ _ _ _ _ _ _ _ _
    c.load_param.ensures
    c.load_param-2.ensures
    c.load_param-3.ensures
    c.load_param-4.ensures
    c.load_param-5.ensures
    c.load_param-6.ensures
    c.load_param-7.ensures
    c.load_param-8.ensures
    c.load_param-9.ensures
    c.load_param-10.ensures
    c.load_param-11.ensures
    c.load_param-12.ensures
    c.load_param-13.ensures
    c.load_param-14.ensures
    c.load_param-15.ensures
    c.load_param-16.ensures
