-- 01's table of numbers, row by row and apart from the order in which the rules test: a number is answered exactly if its row's words
-- hold, and the rows that are tested before it do not. Of every state, call and room. 11 and 0 are in Ignored.
use Rattle.std.specs.Prelude.{ℕ, suc, ◌^◌, ◌≤◌, ◌<◌, ◌≡◌, ◌≢◌, ◌⊎◌, ◌↔◌, true, false, List, length, get_or, ℤ, pos, neg_ℤ}
use Rattle.std.specs.Int.Signed.{lt_z}
use Rattle.records.specs.Records.{State, slot_count, topic_count, peer_in}
use Rattle.layout.specs.View.{Sized}
use Rattle.validity.specs.Valid.{valid}
use Rattle.sets.specs.Sets.{is_permutation}
use Rattle.lookup.specs.Name.{meshsub}
use Rattle.rules.specs.Reply.{number_of}
use Rattle.rules.specs.Calls.{Call, connect, disconnect, join, leave, subscribe, unsubscribe, graft, prune, deliver, rate, heartbeat, decay}
use Rattle.rules.specs.Calls.{score, time_of, in_range}
use Rattle.rules.specs.Step.{step, action_room}
use Rattle.promises.specs.Ends.{end_in}

-- a connected record holds the id, or none does
abbrev pub Connected : State → ℕ → Type 0
Connected st id = (s : ℕ) × (s < slot_count) × ((peer_in st s).status ≡ 1) × ((peer_in st s).id ≡ id)

abbrev pub Missing : State → ℕ → Type 0
Missing st id = (s : ℕ) → s < slot_count → (peer_in st s).status ≡ 1 → (peer_in st s).id ≢ id

-- neither 12 nor 2, 8, 1
pub record Admitted (st : State) (c : Call) (room : ℕ) : Type 0 where
  pub router : valid st ≡ true
  pub ranges : in_range c ≡ true
  pub list : action_room ≤ room
  pub time : st.clock ≤ time_of c

pub record Rows (st : State) (c : Call) (room : ℕ) (n : ℕ) : Type 0 where
  -- "the tables handed in are no router's"
  pub row12 : (n ≡ 12) ↔ (valid st ≡ false)
  -- "topic, id, group, flags, kind, ask, time or P5 outside its range"
  pub row2 : (n ≡ 2) ↔ ((valid st ≡ true) × (in_range c ≡ false))
  -- "action list under 192 numbers", with order 9 under 768
  pub row8 : (n ≡ 8) ↔ ((valid st ≡ true) × (in_range c ≡ true) × (room < action_room))
  -- "now earlier than the last accepted time"
  pub row1 : (n ≡ 1) ↔ ((valid st ≡ true) × (in_range c ≡ true) × (action_room ≤ room) × (time_of c < st.clock))

abbrev pub FirstRows : Type 0
FirstRows = (st : State) (c : Call) (room : ℕ) → Rows st c room (number_of (step st c room).answer)

-- ---- 2: the ranges in 01's words, call by call
-- "Times are milliseconds, 0 to 2^40."
abbrev pub TimeIn : ℕ → Type 0
TimeIn time = time ≤ 2 ^ 40

-- "Peer ids are 1 to 4,294,967,295."
abbrev pub IdIn : ℕ → Type 0
IdIn id = (1 ≤ id) × (id ≤ 4294967295)

-- "8 topics (0 to 7)"
abbrev pub TopicIn : ℕ → Type 0
TopicIn t = t ≤ 7

-- "address group (32 bits)" (01); "one to four different address groups [..], lowest first" (02, order 11)
pub record GroupsIn (groups : List ℕ) : Type 0 where
  pub some : 1 ≤ length groups
  pub few : length groups ≤ 4
  pub bits : (k : ℕ) → k < length groups → get_or groups k 0 < 2 ^ 32
  pub rising : (k : ℕ) → suc k < length groups → get_or groups k 0 < get_or groups (suc k) 0

-- "flags (1 outbound + 2 explicit)"
abbrev pub FlagsIn : ℕ → Type 0
FlagsIn flags = flags ≤ 3

-- "kind (1 first, 2 near-first, 3 invalid)"
abbrev pub KindIn : ℕ → Type 0
KindIn kind = (1 ≤ kind) × (kind ≤ 3)

-- "a yes or no for opportunism"
abbrev pub AskIn : ℕ → Type 0
AskIn ask = ask ≤ 1

-- "P5 is set by the host, ±10^9 millionths": neither below the one end nor above the other
abbrev pub P5In : ℤ → Type 0
P5In p5 = (lt_z p5 (neg_ℤ (pos 1000000000)) ≡ false) × (lt_z (pos 1000000000) p5 ≡ false)

-- what each call asks besides its time; a PRUNE's seconds have no range, a name and a draw have numbers of their own (6, 7)
abbrev pub ArgumentsIn : Call → Type 0
ArgumentsIn (connect time id groups flags name) = IdIn id × GroupsIn groups × FlagsIn flags
ArgumentsIn (disconnect time id) = IdIn id
ArgumentsIn (join time t) = TopicIn t
ArgumentsIn (leave time t) = TopicIn t
ArgumentsIn (subscribe time id t) = IdIn id × TopicIn t
ArgumentsIn (unsubscribe time id t) = IdIn id × TopicIn t
ArgumentsIn (graft time id t) = IdIn id × TopicIn t
ArgumentsIn (prune time id t seconds) = IdIn id × TopicIn t
ArgumentsIn (deliver time id t kind) = IdIn id × TopicIn t × KindIn kind
ArgumentsIn (rate time id p5) = IdIn id × P5In p5
ArgumentsIn (heartbeat time t ask order) = TopicIn t × AskIn ask
ArgumentsIn (decay time) = Unit
ArgumentsIn (score time id) = IdIn id

-- `in_range`, which the rows above name, is these ranges
abbrev pub Ranges : Type 0
Ranges = (c : Call) → (in_range c ≡ true) ↔ (TimeIn (time_of c) × ArgumentsIn c)

-- ---- 3, of each call that names a peer and is no connect; the others are never answered 3
abbrev pub Names : Call → (ℕ → Type 0) → Type 0
Names (connect time id groups flags name) P = ⊥
Names (disconnect time id) P = P id
Names (join time t) P = ⊥
Names (leave time t) P = ⊥
Names (subscribe time id t) P = P id
Names (unsubscribe time id t) P = P id
Names (graft time id t) P = P id
Names (prune time id t seconds) P = P id
Names (deliver time id t kind) P = P id
Names (rate time id p5) P = P id
Names (heartbeat time t ask order) P = ⊥
Names (decay time) P = ⊥
Names (score time id) P = P id

-- "no connected record holds the id"
abbrev pub Words3 : State → Call → Type 0
Words3 st c = Names c (Missing st)

abbrev pub Row3 : Type 0
Row3 = (st : State) (c : Call) (room : ℕ) → (number_of (step st c room).answer ≡ 3) ↔ (Admitted st c room × Words3 st c)

-- ---- 7: "draw not each of 0..63 once", with order 9 of 0..255, of a heartbeat alone
abbrev pub Draws : Call → (List ℕ → Type 0) → Type 0
Draws (connect time id groups flags name) P = ⊥
Draws (disconnect time id) P = ⊥
Draws (join time t) P = ⊥
Draws (leave time t) P = ⊥
Draws (subscribe time id t) P = ⊥
Draws (unsubscribe time id t) P = ⊥
Draws (graft time id t) P = ⊥
Draws (prune time id t seconds) P = ⊥
Draws (deliver time id t kind) P = ⊥
Draws (rate time id p5) P = ⊥
Draws (heartbeat time t ask order) P = P order
Draws (decay time) P = ⊥
Draws (score time id) P = ⊥

abbrev pub Words7 : Call → Type 0
Words7 c = Draws c (λ order. is_permutation slot_count order ≡ false)

abbrev pub Row7 : Type 0
Row7 = (st : State) (c : Call) (room : ℕ) → (number_of (step st c room).answer ≡ 7) ↔ (Admitted st c room × Words7 c)

-- ---- 6, 4 and 5, of a connect alone: its time, id and name
abbrev pub Connects : Call → (ℕ → ℕ → List ℕ → Type 0) → Type 0
Connects (connect time id groups flags name) P = P time id name
Connects (disconnect time id) P = ⊥
Connects (join time t) P = ⊥
Connects (leave time t) P = ⊥
Connects (subscribe time id t) P = ⊥
Connects (unsubscribe time id t) P = ⊥
Connects (graft time id t) P = ⊥
Connects (prune time id t seconds) P = ⊥
Connects (deliver time id t kind) P = ⊥
Connects (rate time id p5) P = ⊥
Connects (heartbeat time t ask order) P = ⊥
Connects (decay time) P = ⊥
Connects (score time id) P = ⊥

-- "protocol name exactly /meshsub/1.0.0 or /meshsub/1.1.0", and 02, order 6: "Accept /meshsub/1.2.0": 48, 49 and 50 are the bytes of 0, 1
-- and 2
abbrev pub Known : List ℕ → Type 0
Known name = (name ≡ meshsub 48) ⊎ (name ≡ meshsub 49) ⊎ (name ≡ meshsub 50)

abbrev pub Strange : List ℕ → Type 0
Strange name = (name ≢ meshsub 48) × (name ≢ meshsub 49) × (name ≢ meshsub 50)

-- 6: "protocol name not known"
abbrev pub Words6 : Call → Type 0
Words6 c = Connects c (λ time id name. Strange name)

abbrev pub Row6 : Type 0
Row6 = (st : State) (c : Call) (room : ℕ) → (number_of (step st c room).answer ≡ 6) ↔ (Admitted st c room × Words6 c)

-- 4: "connect of a connected id"
abbrev pub Words4 : State → Call → Type 0
Words4 st c = Connects c (λ time id name. Known name × Connected st id)

abbrev pub Row4 : Type 0
Row4 = (st : State) (c : Call) (room : ℕ) → (number_of (step st c room).answer ≡ 4) ↔ (Admitted st c room × Words4 st c)

-- 5: "no slot to give". "First empty every reclaimable record: retained, retain period over (now ≥ its end), all eight backoffs over. A
-- retained id resumes its record [..]; another takes the lowest empty slot; 5 is given exactly if there is none." So every slot is held by
-- another id, and none is reclaimable.
pub record Held (st : State) (time id s : ℕ) : Type 0 where
  pub used : (peer_in st s).status ≢ 0
  pub other : (peer_in st s).id ≢ id
  pub stays :
      (peer_in st s).status ≡ 2 →
      (peer_in st s).retain ≤ time →
      ((t : ℕ) → t < topic_count → end_in st s t ≤ time) →
      ⊥

abbrev pub Words5 : State → Call → Type 0
Words5 st c = Connects c (λ time id name. Known name × ((s : ℕ) → s < slot_count → Held st time id s))

abbrev pub Row5 : Type 0
Row5 =
    (st : State) (c : Call) (room : ℕ) →
    Sized st →
    (number_of (step st c room).answer ≡ 5) ↔ (Admitted st c room × Words5 st c)
