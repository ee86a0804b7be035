-- 01's worked example and its bench list from states that calls reach: each state is what a list of calls leaves of a fresh router with the
-- ordinary parameters, every call with its tests 12, 2, 8 and 1 (`step`). The permutation is mixed and the scores differ. Crate examples
-- (specs/Table.antt) has the same lines of a made-up state, with the two that are of numbers alone. To be changed with 01's list alone.
use Rattle.std.specs.Prelude.{ℕ, ◌+◌, ◌*◌, ◌%◌, ◌≡◌, true, false, cond, List, [], ◌∷◌, ◌++◌, map, pos, negsuc}
use Rattle.index.specs.Index.{gather}
use Rattle.params.specs.Ordinary.{ordinary_params}
use Rattle.records.specs.Records.{State, slot_count, peer_in}
use Rattle.lookup.specs.Name.{meshsub}
use Rattle.score.specs.Score.{score_in}
use Rattle.effects.specs.Actions.{Action}
use Rattle.effects.specs.Effects.{backoff_runs, is_member, mesh_size}
use Rattle.sets.specs.Sets.{ascending, by_slot}
use Rattle.rules.specs.declared.Answer.{Answer}
use Rattle.rules.specs.declared.Answer.TheVariants.{Done, Scored}
use Rattle.rules.specs.Reply.{Reply, number_of}
use Rattle.rules.specs.Calls.{Call, connect, join, subscribe, graft, prune, deliver, rate, heartbeat, score}
use Rattle.rules.specs.Step.{action_room, step}
use Rattle.call_lists.specs.Lists.{Made, fresh, after}

-- ---- lists of calls, the first call first, each lent an action list of 768 numbers. Crate call_lists has them the last call first
abbrev pub lent : Call → Made
lent c = record { call = c; room = action_room }

-- the calls of a list behind those before it
unfoldable pub behind : List Made → List Call → List Made
behind before [] = before
behind before (c ∷ rest) = behind (lent c ∷ before) rest

-- a call behind a list of calls, and all the replies to a list
unfoldable pub reply : List Made → Call → Reply
reply before c = step (after (fresh ordinary_params) before) c action_room

unfoldable pub replies : List Made → List Call → List Reply
replies before [] = []
replies before (c ∷ rest) = reply before c ∷ replies (lent c ∷ before) rest

-- the state that a list of calls reaches, and what a call is answered there
unfoldable pub reached : List Call → State
reached calls = after (fresh ordinary_params) (behind [] calls)

unfoldable pub asked : List Call → Call → Reply
asked calls c = reply (behind [] calls) c

-- the numbers that the calls of a list were answered, added: 0 if each was answered 0
unfoldable pub refusals : List Reply → ℕ
refusals [] = 0
refusals (r ∷ rest) = number_of r.answer + refusals rest

abbrev pub answer_of : Reply → Answer
answer_of r = r.answer

-- an action's kind, id and seconds
abbrev pub told : Action → ℕ × ℕ × ℕ
told a = (a.kind, a.id, a.seconds)

abbrev pub told_in : Reply → List (ℕ × ℕ × ℕ)
told_in r = map told r.actions

-- the mesh of topic 0 after a reply, and what is told
abbrev pub entered_by : Reply → ℕ × List (ℕ × ℕ × ℕ)
entered_by r = (mesh_size r.state 0, told_in r)

-- the members of topic 0 by slot: id, and 1 for outbound
unfoldable pub members_in : State → List (ℕ × ℕ)
members_in st = gather slot_count (λ s. cond (is_member st 0 s) (((peer_in st s).id, (peer_in st s).outbound) ∷ []) [])

-- a mixed permutation: 11, 168, 69, 226, 127, 28, 185, 86, ..; of the first 14 slots it is 11, 4, 7, 0, 10, 3, 13, 6, 9, 2, 12, 5, 8, 1
unfoldable pub mixed : List ℕ
mixed = map (λ (i : ℕ). (157 * i + 11) % slot_count) (ascending 0 slot_count)

-- ---- 01's worked example: "connect 7 (inbound, not explicit, /meshsub/1.1.0), join 0, subscribe 7 0, tidy, PRUNE 7 0 60, GRAFT 7 0,
-- score 7, all at time 5, no opportunism"
unfoldable pub worked : List Call
worked =
    connect 5 7 (7 ∷ []) 0 (meshsub 49)
    ∷ join 5 0
    ∷ subscribe 5 7 0
    ∷ heartbeat 5 0 0 mixed
    ∷ prune 5 7 0 60
    ∷ graft 5 7 0
    ∷ score 5 7
    ∷ []

-- ---- a crowd in topic 0, at 1,000
-- peers of a direction that connect, each in a group of its own, and subscribe
unfoldable pub come : ℕ → List ℕ → List Call
come outbound [] = []
come outbound (id ∷ ids) = connect 1000 id (id ∷ []) outbound (meshsub 49) ∷ subscribe 1000 id 0 ∷ come outbound ids

-- inbound peers that come and send a GRAFT
unfoldable pub enter : List ℕ → List Call
enter [] = []
enter (id ∷ ids) = come 0 (id ∷ []) ++ graft 1000 id 0 ∷ enter ids

-- a first delivery from each
unfoldable pub bring : List ℕ → List Call
bring [] = []
bring (id ∷ ids) = deliver 1000 id 0 1 ∷ bring ids

-- eleven inbound members: six that our heartbeat grafted, and five that sent a GRAFT. The host rates 12, and four others deliver
unfoldable pub eleven : List Call
eleven =
    join 1000 0
    ∷ come 0 (31 ∷ 7 ∷ 45 ∷ 12 ∷ 88 ∷ 23 ∷ [])
    ++ heartbeat 1000 0 0 mixed
    ∷ enter (64 ∷ 5 ∷ 71 ∷ 19 ∷ 52 ∷ [])
    ++ rate 1000 12 (pos 3000000)
    ∷ bring (7 ∷ 7 ∷ 7 ∷ 45 ∷ 45 ∷ 23 ∷ 71 ∷ [])

-- a twelfth, that sent a GRAFT
unfoldable pub twelve : List Call
twelve = eleven ++ enter (36 ∷ [])

-- a thirteenth inbound member, past D_hi: its score is above the median, and our heartbeat grafts it (step 5)
unfoldable pub thirteen : List Call
thirteen = twelve ++ come 0 (90 ∷ []) ++ bring (90 ∷ []) ++ heartbeat 1000 0 1 mixed ∷ []

-- a GRAFT at 10,000 from a peer of a direction that came last
unfoldable pub grafted : List Call → ℕ → Reply
grafted calls outbound = asked (calls ++ come outbound (101 ∷ [])) (graft 10000 101 0)

-- a heartbeat at 10,000, after outbound peers came
unfoldable pub maintained : List Call → List ℕ → Reply
maintained calls ids = asked (calls ++ come 1 ids) (heartbeat 10000 0 0 mixed)

-- a PRUNE at 10,000 for 60 s from 45, which is in slot 2
unfoldable pub pruned_for60 : List Call
pruned_for60 = twelve ++ prune 10000 45 0 60 ∷ []

-- ---- the table, in parts
pub record WorkedExample : Type 0 where
  -- "gives whole": 0 with no action, 0 with none, 0 with none, 0 with G 7, 0 with none, 0 with P 7 60, 0 with S -10000000000
  pub worked_answers :
      map answer_of (replies [] worked)
      ≡ Done 0
      ∷ Done 0
      ∷ Done 0
      ∷ Done 1
      ∷ Done 0
      ∷ Done 1
      ∷ Scored
      (record { topics = pos 0; capped = pos 0; p5 = pos 0; p6 = pos 0; p7 = negsuc 9999999999; score = negsuc 9999999999 })
      ∷ []
  pub worked_actions :
      map told_in (replies [] worked)
      ≡ [] ∷ [] ∷ [] ∷ ((1, 7, 0) ∷ []) ∷ [] ∷ ((2, 7, 60) ∷ []) ∷ [] ∷ []

pub record ThirteenMembers : Type 0 where
  -- every call of the lists below is answered 0
  pub heard : refusals (replies [] thirteen) ≡ 0
  -- the thirteen members, all inbound, and their scores by slot
  pub members :
      members_in (reached thirteen)
      ≡ (31, 0)
      ∷ (7, 0)
      ∷ (45, 0)
      ∷ (12, 0)
      ∷ (88, 0)
      ∷ (23, 0)
      ∷ (64, 0)
      ∷ (5, 0)
      ∷ (71, 0)
      ∷ (19, 0)
      ∷ (52, 0)
      ∷ (36, 0)
      ∷ (90, 0)
      ∷ []
  pub scores :
      by_slot 13 (score_in (reached thirteen))
      ≡ pos 0
      ∷ pos 1500000000
      ∷ pos 1000000000
      ∷ pos 3000000000
      ∷ pos 0
      ∷ pos 500000000
      ∷ pos 0
      ∷ pos 0
      ∷ pos 500000000
      ∷ pos 0
      ∷ pos 0
      ∷ pos 0
      ∷ pos 500000000
      ∷ []

pub record PrunedFor60 : Type 0 where
  -- "PRUNE at 10,000 for 60 s: running at 69,999, over at 70,000.": of its record, and what its GRAFT is told
  pub running : backoff_runs (peer_in (reached pruned_for60) 2) 0 69999 ≡ true
  pub over : backoff_runs (peer_in (reached pruned_for60) 2) 0 70000 ≡ false
  pub graft_at69999 : told_in (asked pruned_for60 (graft 69999 45 0)) ≡ (2, 45, 60) ∷ []
  pub graft_at70000 : entered_by (asked pruned_for60 (graft 70000 45 0)) ≡ (12, [])

pub record EntersAt : Type 0 where
  -- "D_hi 12: an inbound GRAFT enters at 11, not at 12; an outbound one enters at 12.": the mesh after it, and what the peer is told
  pub inbound_at11 : entered_by (grafted eleven 0) ≡ (12, [])
  pub inbound_at12 : entered_by (grafted twelve 0) ≡ (12, (2, 101, 60) ∷ [])
  pub outbound_at12 : entered_by (grafted twelve 1) ≡ (13, [])

pub record FromThirteen : Type 0 where
  -- "13 inbound members, one outbound candidate: 7 PRUNEs, one GRAFT, mesh 7.": the four best are 12, 7, 45 and, of the three with half a
  -- point the first drawn, 90; then 36 and 88 are drawn
  pub thirteen_told :
      told_in (maintained thirteen (101 ∷ []))
      ≡ (2, 31, 60)
      ∷ (2, 23, 60)
      ∷ (2, 64, 60)
      ∷ (2, 5, 60)
      ∷ (2, 71, 60)
      ∷ (2, 19, 60)
      ∷ (2, 52, 60)
      ∷ (1, 101, 0)
      ∷ []
  pub thirteen_mesh :
      members_in (maintained thirteen (101 ∷ [])).state
      ≡ (7, 0) ∷ (45, 0) ∷ (12, 0) ∷ (88, 0) ∷ (36, 0) ∷ (90, 0) ∷ (101, 1) ∷ []

pub record FromTwelve : Type 0 where
  -- "12 inbound members, two outbound candidates: mesh 14.": of the two, 102 is drawn first
  pub twelve_told : told_in (maintained twelve (101 ∷ 102 ∷ [])) ≡ (1, 102, 0) ∷ (1, 101, 0) ∷ []
  pub twelve_mesh : mesh_size (maintained twelve (101 ∷ 102 ∷ [])).state 0 ≡ 14

pub record Reached : Type 0 where
  pub worked : WorkedExample
  pub thirteen : ThirteenMembers
  pub pruned : PrunedFor60
  pub enters : EntersAt
  pub from_thirteen : FromThirteen
  pub from_twelve : FromTwelve
