-- Worked examples of orders 6 and 7: lists of calls, the first call first, and what each call answers and gives.
use Rattle.std.specs.Prelude.{ℕ, ◌≡◌, List, [], ◌∷◌, ◌++◌, map}
use Rattle.params.specs.Ordinary.{ordinary_params}
use Rattle.records.specs.Records.{slot_count}
use Rattle.lookup.specs.Fresh.{fresh_state}
use Rattle.lookup.specs.Name.{meshsub}
use Rattle.sets.specs.Sets.{ascending}
use Rattle.effects.specs.Actions.{Action}
use Rattle.rules.specs.Calls.{connect, disconnect, join, leave, subscribe, graft}
use Rattle.rules.specs.Step.{action_room}
use Rattle.gossip.specs.Notes.{Setup, Extended, numbers_most, fresh_gossip}
use Rattle.gossip.specs.Calls.{ask_all, idontwant, relay, beat, store, announce, ihave, iwant, Any, old, new}
use Rattle.gossip.specs.Step.{FullReply, step_all}

-- ---- what is seen of a reply
pub record Seen : Type 0 where
  pub answer : ℕ
  pub actions : List Action
  pub numbers : List ℕ

abbrev pub seen_of : FullReply → Seen
seen_of r = record { answer = r.answer; actions = r.actions; numbers = r.numbers }

-- a number alone; actions of one kind; numbers, and who is told them
abbrev pub quiet : ℕ → Seen
quiet a = record { answer = a; actions = []; numbers = [] }

abbrev pub tell : ℕ → ℕ → Action
tell kind id = record { kind = kind; id = id; seconds = 0 }

abbrev pub told : ℕ → List ℕ → Seen
told kind ids = record { answer = 0; actions = map (tell kind) ids; numbers = [] }

abbrev pub listed : List ℕ → List ℕ → Seen
listed numbers ids = record { answer = 0; actions = map (tell 5) ids; numbers = numbers }

-- so many numbers a heartbeat, D_lazy 6, a quarter, one IHAVE a heartbeat, and so many replies
abbrev pub setup : ℕ → ℕ → Setup
setup limit replies = record { limit = limit; lazy = 6; factor = 250; ihaves = 1; replies = replies }

-- ---- each list from a fresh router with the ordinary parameters, each call with its tests 12, 2, 8 and 1
unfoldable pub run : List Any → Extended → List Seen
run [] x = []
run (c ∷ rest) x = let r : FullReply = step_all x c action_room in seen_of r ∷ run rest r.state

unfoldable pub begin : Setup → Extended
begin p = record { base = fresh_state ordinary_params; gossip = fresh_gossip p }

-- an inbound peer connects, by /meshsub/1.m.0
abbrev pub come_by : ℕ → ℕ → ℕ → Any
come_by m time id = old (connect time id (0 ∷ []) 0 (meshsub m))

-- ---- order 7
abbrev pub come : ℕ → ℕ → Any
come time id = come_by 49 time id

-- number 5 in topics 0 and 1 with bound 1 is answered once, also after one leave; a reconnect starts anew, and so does a number that was
-- gone
abbrev pub once : List Any
once =
    come 1 7
    ∷ old (join 1 0)
    ∷ old (join 1 1)
    ∷ new (store 2 0 5)
    ∷ new (store 2 1 5)
    ∷ new (iwant 3 7 5)
    ∷ new (iwant 3 7 5)
    ∷ old (leave 4 0)
    ∷ new (iwant 5 7 5)
    ∷ old (disconnect 6 7)
    ∷ new (iwant 6 7 5)
    ∷ come 7 7
    ∷ new (iwant 8 7 5)
    ∷ new (iwant 8 7 5)
    ∷ old (leave 9 1)
    ∷ old (join 9 1)
    ∷ new (iwant 9 7 5)
    ∷ new (store 9 1 5)
    ∷ new (iwant 9 7 5)
    ∷ []

-- the bound is reached: two replies, and the third IWANT is 11; of another number it counts from 0
abbrev pub twice : List Any
twice =
    come 1 7
    ∷ old (join 1 0)
    ∷ new (store 2 0 5)
    ∷ new (store 2 0 6)
    ∷ new (iwant 3 7 5)
    ∷ new (iwant 3 7 5)
    ∷ new (iwant 3 7 5)
    ∷ new (beat 4)
    ∷ new (iwant 4 7 5)
    ∷ new (iwant 4 7 6)
    ∷ []

-- "With this heartbeat's 64 in the topic's store, a further number is 13"; one already there is 0; another topic, and the next heartbeat,
-- have room
abbrev pub full : List Any
full =
    old (join 1 0)
    ∷ old (join 1 1)
    ∷ map (λ n. new (store 1 0 n)) (ascending 100 64)
    ++ (new (store 1 0 5) ∷ new (store 1 0 100) ∷ new (store 1 1 5) ∷ new (beat 2) ∷ new (store 2 0 5) ∷ [])

-- IHAVE is answered by what no topic stores, each once, in order; a second one in the heartbeat is 11; the last three heartbeats' are
-- announced, oldest first, to those that are no members
abbrev pub news : List Any
news =
    come 1 7
    ∷ old (join 1 0)
    ∷ old (subscribe 1 7 0)
    ∷ new (store 1 0 9)
    ∷ new (beat 2)
    ∷ new (store 2 0 4)
    ∷ new (store 2 0 3)
    ∷ new (ihave 2 7 0 (3 ∷ 8 ∷ 9 ∷ 8 ∷ 1 ∷ []) numbers_most)
    ∷ new (ihave 2 7 0 [] numbers_most)
    ∷ new (announce 2 0 (ascending 0 slot_count) numbers_most)
    ∷ new (beat 3)
    ∷ new (beat 4)
    ∷ new (announce 4 0 (ascending 0 slot_count) numbers_most)
    ∷ new (beat 5)
    ∷ new (announce 5 0 (ascending 0 slot_count) numbers_most)
    ∷ new (iwant 5 7 4)
    ∷ new (iwant 5 7 9)
    ∷ new (beat 6)
    ∷ new (iwant 6 7 9)
    ∷ []

-- ---- order 6: peers 7 and 8 of version 1.2.0 come, subscribe to topic 0 and enter its mesh by their GRAFTs, 7 in slot 0 and 8 in slot 1
abbrev pub members : List Any
members =
    come_by 50 1 7
    ∷ come_by 50 1 8
    ∷ old (join 1 0)
    ∷ old (subscribe 1 7 0)
    ∷ old (subscribe 1 8 0)
    ∷ old (graft 1 7 0)
    ∷ old (graft 1 8 0)
    ∷ []

-- each of them 0, without an action
abbrev pub entered : List Seen
entered = map quiet (0 ∷ 0 ∷ 0 ∷ 0 ∷ 0 ∷ 0 ∷ 0 ∷ [])

-- an entry goes at the third heartbeat after its arrival; a repeat does not renew it; a member whose set has it not is told always
abbrev pub third : List Any
third =
    members
    ++ map new
    (idontwant 1 7 5
    ∷ relay 1 0 0 5
    ∷ beat 2
    ∷ relay 2 0 0 5
    ∷ beat 3
    ∷ idontwant 3 7 5
    ∷ relay 3 0 0 5
    ∷ beat 4
    ∷ relay 4 0 0 5
    ∷ relay 4 0 8 5
    ∷ ask_all 4 0 7 9
    ∷ [])

-- two numbers a heartbeat: the third is 11, one already held is 0; a heartbeat starts anew
abbrev pub limits : List Any
limits =
    members
    ++ map new (idontwant 1 7 5 ∷ idontwant 1 7 6 ∷ idontwant 1 7 7 ∷ idontwant 1 7 6 ∷ beat 2 ∷ idontwant 2 7 7 ∷ [])

-- a set of 32 is full, though the heartbeat's count is not: a further number is 11, one already held is 0
abbrev pub crowded : List Any
crowded =
    members
    ++ map new
    (map (idontwant 1 7) (ascending 100 30)
    ++ (beat 2 ∷ idontwant 2 7 1 ∷ idontwant 2 7 2 ∷ idontwant 2 7 3 ∷ idontwant 2 7 100 ∷ idontwant 2 8 3 ∷ []))

pub record Worked : Type 0 where
  pub once_answers :
      run once (begin (setup 2 1)) ≡ map quiet (0 ∷ 0 ∷ 0 ∷ 0 ∷ 0 ∷ 0 ∷ 11 ∷ 0 ∷ 11 ∷ 0 ∷ 3 ∷ 0 ∷ 0 ∷ 11 ∷ 0 ∷ 0 ∷ 11 ∷ 0 ∷ 0 ∷ [])
  pub twice_answers : run twice (begin (setup 2 2)) ≡ map quiet (0 ∷ 0 ∷ 0 ∷ 0 ∷ 0 ∷ 0 ∷ 11 ∷ 0 ∷ 11 ∷ 0 ∷ [])
  pub full_answers : run full (begin (setup 2 1)) ≡ map quiet (0 ∷ 0 ∷ map (λ n. 0) (ascending 0 64) ++ (13 ∷ 0 ∷ 0 ∷ 0 ∷ 0 ∷ []))
  pub news_answers :
      run news (begin (setup 2 1))
      ≡ map quiet (0 ∷ 0 ∷ 0 ∷ 0 ∷ 0 ∷ 0 ∷ 0 ∷ [])
      ++ (listed (8 ∷ 1 ∷ []) []
      ∷ quiet 11
      ∷ listed (9 ∷ 4 ∷ 3 ∷ []) (7 ∷ [])
      ∷ quiet 0
      ∷ quiet 0
      ∷ listed (4 ∷ 3 ∷ []) (7 ∷ [])
      ∷ quiet 0
      ∷ quiet 0
      ∷ quiet 0
      ∷ quiet 0
      ∷ quiet 0
      ∷ quiet 11
      ∷ [])
  pub third_answers :
      run third (begin (setup 2 1))
      ≡ entered
      ++ (quiet 0
      ∷ told 4 (8 ∷ [])
      ∷ quiet 0
      ∷ told 4 (8 ∷ [])
      ∷ quiet 0
      ∷ quiet 0
      ∷ told 4 (8 ∷ [])
      ∷ quiet 0
      ∷ told 4 (7 ∷ 8 ∷ [])
      ∷ told 4 (7 ∷ [])
      ∷ told 3 (8 ∷ [])
      ∷ [])
  pub limits_answers : run limits (begin (setup 2 1)) ≡ entered ++ map quiet (0 ∷ 0 ∷ 11 ∷ 0 ∷ 0 ∷ 0 ∷ [])
  pub crowded_answers :
      run crowded (begin (setup 32 1))
      ≡ entered ++ map quiet (map (λ n. 0) (ascending 0 30) ++ (0 ∷ 0 ∷ 0 ∷ 11 ∷ 0 ∷ 0 ∷ []))
