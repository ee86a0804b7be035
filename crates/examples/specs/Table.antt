-- 01's bench list, the lines marked [p], in one table: what the definitions of the rules give. To be changed with 01's list alone.
-- Crate reached has the lines that run calls once more, from states that calls reach.
use Rattle.std.specs.Prelude.{ℕ, zero, suc, ◌+◌, ◌≡◌, true, false, List, [], ◌∷◌, ◌++◌, map, replicate, ℤ, pos, negsuc}
use Rattle.records.specs.declared.Peer.{Peer}
use Rattle.records.specs.declared.TopicRecord.{TopicRecord}
use Rattle.records.specs.Records.{State, slot_count, no_topic, peer_in}
use Rattle.score.specs.declared.TopicParams.{TopicParams}
use Rattle.score.specs.Parts.{part1_of, part2_of, part3_of, part3b_of, part4_of}
use Rattle.score.specs.Formula.{topic_sum}
use Rattle.score.specs.Counters.{faded_of}
use Rattle.effects.specs.Actions.{Action}
use Rattle.effects.specs.Effects.{backoff_runs, mesh_size}
use Rattle.sets.specs.Sets.{ascending}
use Rattle.rules.specs.Reply.{Reply}
use Rattle.rules.specs.Calls.{graft, prune, heartbeat}
use Rattle.rules.specs.Step.{effect}

-- ---- a topic with weight 500, w3 -1, threshold 20000 and activation 10, all other weights 0, and a member of it with counter 15000
unfoldable pub lonely : TopicParams
lonely =
    record {
      weight = 500;
      w1 = 0;
      quantum = 1;
      cap1 = 0;
      w2 = 0;
      decay2 = 1;
      cap2 = 0;
      w3 = 1;
      decay3 = 1;
      cap3 = 20000;
      threshold = 20000;
      activation = 10;
      w3b = 0;
      decay3b = 1;
      w4 = 0;
      decay4 = 1;
    }

unfoldable pub short : ℕ → TopicRecord
short mesh =
    record { p2 = 0; p3 = 15000; p4 = 0; p3b = 0; subscribed = 1; member = 1; graft = 0; mesh = mesh }

-- its topic sum at a mesh time
unfoldable pub short_sum : ℕ → ℤ
short_sum mesh =
    topic_sum (pos 500) (pos 0) (pos 0) (negsuc 0) (pos 0) (pos 0)
    (part1_of lonely (short mesh))
    (part2_of (short mesh))
    (part3_of lonely (short mesh))
    (part3b_of (short mesh))
    (part4_of (short mesh))

-- ---- a made-up state that has joined topic 0, where all scores are 0, with D_lo 4, D 6, D_hi 12, D_out 2, D_score 4 and prune backoff 60
unfoldable pub peer : ℕ → ℕ → Peer
peer id outbound =
    record {
      status = 1;
      id = id;
      groups = record { first = id + 1; second = 0; third = 0; fourth = 0 };
      outbound = outbound;
      explicit = 0;
      version = 1;
      p5 = 0;
      p7 = 0;
      retain = 0;
      backoff = 0 ∷ 0 ∷ 0 ∷ 0 ∷ 0 ∷ 0 ∷ 0 ∷ 0 ∷ [];
    }

unfoldable pub in_topic : ℕ → TopicRecord
in_topic member =
    record { p2 = 0; p3 = 0; p4 = 0; p3b = 0; subscribed = 1; member = member; graft = 0; mesh = 0 }

-- n peers of a direction, with ids from i on, and their records
unfoldable pub peers : ℕ → ℕ → ℕ → List Peer
peers i zero outbound = []
peers i (suc n) outbound = peer i outbound ∷ peers (suc i) n outbound

unfoldable pub topics : ℕ → ℕ → List TopicRecord
topics zero member = []
topics (suc n) member = in_topic member ∷ replicate 7 no_topic ++ topics n member

-- as many inbound members, in the first slots, with ids from 1 on, and then as many subscribed peers of a direction that are none, with ids
-- from 101 on. The codes of the parameters are 2n, or -2n - 1; those that stand as 0 are not used at score 0. It is no router's table, for
-- it has few codes and no empty records: test 12 would refuse it, and the calls are taken behind the first tests (`effect`).
unfoldable pub crowd : ℕ → ℕ → ℕ → State
crowd members others outbound =
    record {
      clock = 0;
      joined = 1 ∷ [];
      codes = 8 ∷ 12 ∷ 24 ∷ 4 ∷ 8 ∷ 120 ∷ 20 ∷ 0 ∷ 0 ∷ 1 ∷ 0 ∷ 0 ∷ 0 ∷ 0 ∷ 0 ∷ 128 ∷ [];
      setup = record { edition = 1 };
      peers = peers 1 members 0 ++ peers 101 others outbound;
      topics = topics members 1 ++ topics others 0;
    }

-- a PRUNE at 10,000 for 60 s from the one member
unfoldable pub pruned_for60 : State
pruned_for60 = (effect (crowd 1 0 0) (prune 10000 1 0 60)).state

-- a GRAFT from a peer of a direction, at as many members
unfoldable pub grafted : ℕ → ℕ → Reply
grafted members outbound = effect (crowd members 1 outbound) (graft 0 101 0)

-- a heartbeat (01's tidy), drawn by slot, with no opportunism, at as many members and outbound candidates
unfoldable pub maintained : ℕ → ℕ → Reply
maintained members others = effect (crowd members others 1) (heartbeat 0 0 0 (ascending 0 slot_count))

-- an action's kind and the id it names
abbrev pub told : Action → ℕ × ℕ
told a = (a.kind, a.id)

-- ---- the table
pub record Examples : Type 0 where
  -- "120000 at 970 decays to 116400": at the lowest and at the highest decay-to-zero
  pub decays : faded_of 0 970 120000 ≡ 116400
  pub decays_too : faded_of 1000 970 120000 ≡ 116400
  -- "Threshold 20000, counter 15000, w3 -1, weight 500: -12,500,000,000; mesh time equal to activation: 0."
  pub deficit : short_sum 11 ≡ negsuc 12499999999
  pub at_activation : short_sum 10 ≡ pos 0
  -- "PRUNE at 10,000 for 60 s: running at 69,999, over at 70,000."
  pub running : backoff_runs (peer_in pruned_for60 0) 0 69999 ≡ true
  pub over : backoff_runs (peer_in pruned_for60 0) 0 70000 ≡ false
  -- "D_hi 12: an inbound GRAFT enters at 11, not at 12; an outbound one enters at 12.": the mesh after it, and what the peer is told
  pub inbound_at11 : (mesh_size (grafted 11 0).state 0 ≡ 12) × (map told (grafted 11 0).actions ≡ [])
  pub inbound_at12 : (mesh_size (grafted 12 0).state 0 ≡ 12) × (map told (grafted 12 0).actions ≡ (2, 101) ∷ [])
  pub outbound_at12 : (mesh_size (grafted 12 1).state 0 ≡ 13) × (map told (grafted 12 1).actions ≡ [])
  -- "13 inbound members, one outbound candidate: 7 PRUNEs, one GRAFT, mesh 7."
  pub thirteen :
      map told (maintained 13 1).actions
      ≡ (2, 7) ∷ (2, 8) ∷ (2, 9) ∷ (2, 10) ∷ (2, 11) ∷ (2, 12) ∷ (2, 13) ∷ (1, 101) ∷ []
  pub thirteen_mesh : mesh_size (maintained 13 1).state 0 ≡ 7
  -- "12 inbound members, two outbound candidates: mesh 14."
  pub twelve_mesh : mesh_size (maintained 12 2).state 0 ≡ 14
