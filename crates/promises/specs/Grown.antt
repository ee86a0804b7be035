-- "P3b grows by P3 as it stands when we PRUNE a member whose score is negative at the start of the call." Members are PRUNEd by leave and
-- heartbeat alone, and no other call raises P3b; P3's numbers are the sheet's own.
use Rattle.std.specs.Prelude.{ℕ, ◌+◌, ◌-◌, ◌*◌, ◌≤◌, ◌<◌, min, ◌≡◌, ◌≢◌, ◌⊎◌, cond, not, ◌&&◌, List, eqb, ltb, pos}
use Rattle.std.specs.Int.Signed.{lt_z}
use Rattle.params.specs.declared.Params.{Params}
use Rattle.records.specs.declared.TopicRecord.{TopicRecord}
use Rattle.records.specs.Records.{State, slot_count, topic_count, place, peer_in, topic_in}
use Rattle.effects.specs.Effects.{is_member}
use Rattle.score.specs.Score.{score_in}
use Rattle.rules.specs.Calls.{Call, connect, leave, heartbeat}
use Rattle.rules.specs.Step.{step}
use Rattle.call_lists.specs.Lists.{Start, Made, after}
use Rattle.call_lists.specs.Demand3.{Accepted}
use Rattle.promises.specs.Parameters.{topic_number}

-- "P3 = (threshold - counter)² for a member with mesh time > activation and counter < threshold, else 0": numbers 10 and 11 of a topic
abbrev pub p3_of : Params → ℕ → TopicRecord → ℕ
p3_of params t r =
    cond
    (eqb r.member 1 && (ltb (topic_number params t 11) r.mesh && ltb r.p3 (topic_number params t 10)))
    ((topic_number params t 10 - r.p3) * (topic_number params t 10 - r.p3))
    0

-- st is the state at the start, u the one that a leave or a heartbeat of topic t leaves
pub record Grown (params : Params) (t : ℕ) (st u : State) : Type 0 where
  -- who was a member and is none, with a negative score; "P3b [stops] at 10^12"
  pub grows :
      (s : ℕ) →
      s < slot_count →
      (topic_in u (place s t)).p3b
      ≡ cond
      (is_member st t s && (not (is_member u t s) && lt_z (score_in st s) (pos 0)))
      (min ((topic_in st (place s t)).p3b + p3_of params t (topic_in st (place s t))) 1000000000000)
      (topic_in st (place s t)).p3b
  -- and in no other topic
  pub stays : (s v : ℕ) → v < topic_count → v ≢ t → (topic_in u (place s v)).p3b ≡ (topic_in st (place s v)).p3b

-- the P3b counter of slot s in topic t
abbrev pub p3b_in : State → ℕ → ℕ → ℕ
p3b_in st s t = (topic_in st (place s t)).p3b

-- a call from st to u that leaves it higher is a leave or a heartbeat of its topic
abbrev pub OnlyByPrune : Call → State → State → ℕ → ℕ → Type 0
OnlyByPrune c st u s t =
    (p3b_in u s t ≤ p3b_in st s t)
    ⊎ ((time : ℕ) × (c ≡ leave time t))
    ⊎ ((time : ℕ) × (ask : ℕ) × (order : List ℕ) × (c ≡ heartbeat time t ask order))

-- what the calls do to P3b, from st
pub record Deficits (params : Params) (st : State) : Type 0 where
  pub left : (time t room : ℕ) → Grown params t st (step st (leave time t) room).state
  pub maintained :
      (time t ask room : ℕ) (order : List ℕ) → Grown params t st (step st (heartbeat time t ask order) room).state
  -- no other call raises it
  pub only : (c : Call) (room s t : ℕ) → s < slot_count → t < topic_count → OnlyByPrune c st (step st c room).state s t
  -- a record that a connect makes anew has none: its slot holds another id than before
  pub anew :
      (time id : ℕ) (groups : List ℕ) (flags room s t : ℕ) (name : List ℕ) →
      s < slot_count →
      t < topic_count →
      (peer_in (step st (connect time id groups flags name) room).state s).id ≢ (peer_in st s).id →
      p3b_in (step st (connect time id groups flags name) room).state s t ≡ 0

abbrev pub P3bGrows : Type 0
P3bGrows = (start : Start) (calls : List Made) → Accepted start → Deficits start.params (after start calls)
