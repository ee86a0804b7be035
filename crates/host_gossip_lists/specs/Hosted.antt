-- The C ABI's functions with the array of orders 6 and 7, one after the other on one table and one array: what comes back and what is left
-- is what the rules give (01: "the program's calls give the same answers, and the tables they leave hold the same joined topics and
-- meshes"). Of the functions only their promises are taken (crate host, src/array.rt and src/calls.rt).
use Rattle.std.specs.Prelude.{Option}
use Rattle.params.specs.declared.Edition.{Edition}
use Rattle.std.specs.Prelude.{ℕ, ◌≤◌, ◌<◌, ◌≡◌, Bool, true, false, List, [], ◌∷◌, ◌++◌, map, ℤ, length, get_or}
use Rattle.std.proofs.lemmas.List.Edits.{sets}
use Rattle.records.specs.Records.{param_count}
use Rattle.params.specs.Editions.{edition_number, edition_of}
use Rattle.layout.specs.View.{state_of}
use Rattle.lookup.specs.Fresh.{fresh_state}
use Rattle.effects.specs.Actions.{numbers_of}
use Rattle.answers.specs.Answers.{why_or}
use Rattle.rules.specs.Calls.{Call, score}
use Rattle.rules.specs.Step.{step}
use Rattle.host_calls.specs.Host.{Hosts}
use Rattle.gossip.specs.Calls.{New, ask_all, idontwant, relay, beat, store, announce, ihave, iwant, Any, old, new}
use Rattle.gossip.specs.Step.{FullReply, handed, step_all}
use Rattle.gossip_table.specs.View.{extended_of}
use Rattle.gossip_gate.specs.Promise.{reply_code, FollowsAll, Tells}
use Rattle.host_gossip.specs.Routers.{HostsMade, HostsLoadAll}
use Rattle.gossip_lists.specs.Lists.{Start, Did, after_all}
use Rattle.gossip_lists.specs.Demand3.{HoldsAll, sheet, base_after}
use Rattle.gossip_lists.specs.Kept.{Whole}
use Rattle.gossip_lists.specs.Bound.{Within, replies_in}

-- a host's call, the number that came back, and the lists that it lent, of actions and of message numbers: what stood there, and what
-- stands there after it. A function that takes no list of numbers leaves every such list alone
pub record HostCall : Type 0 where
  pub call : Any
  pub code : ℕ
  pub list : List ℕ
  pub list' : List ℕ
  pub numbers : List ℕ
  pub numbers' : List ℕ

-- the same call in a list of the rules
abbrev pub did : HostCall → Did
did c = record { call = c.call; room = length c.list }

-- ---- what the function of a call promises; table and gossip are what it was handed, table' and gossip' what is left
module _ (c : HostCall) (table table' gossip gossip' : List ℕ) where
  -- handed table and array
  abbrev pub RunsBoth : Type 0
  RunsBoth =
      FollowsAll c.call c.code table table' gossip gossip' c.list c.list' × (c.numbers' ≡ c.numbers)

  -- and a list of numbers, of so many
  abbrev pub RunsTelling : ℕ → Type 0
  RunsTelling many =
      FollowsAll c.call c.code table table' gossip gossip' c.list c.list'
      × Tells c.call table gossip c.list c.numbers c.numbers'
      × (many ≡ length c.numbers)

  -- handed the table alone: "nobody else writes" the array
  abbrev pub RunsAlone : Call → Type 0
  RunsAlone k = Hosts k c.code table table' c.list c.list' × (gossip' ≡ gossip) × (c.numbers' ≡ c.numbers)

  -- 01's calls: connect, disconnect and leave are handed the array, the ten others are not
  abbrev pub RunsOld : Bool → Call → Type 0
  RunsOld true k = RunsBoth
  RunsOld false k = RunsAlone k

  abbrev pub RunsNew : New → Type 0
  RunsNew (ask_all time t sender n) = RunsBoth
  RunsNew (idontwant time id n) = RunsBoth
  RunsNew (relay time t sender n) = RunsBoth
  RunsNew (beat time) = RunsBoth
  RunsNew (store time t n) = RunsBoth
  RunsNew (announce time t order many) = RunsTelling many
  RunsNew (ihave time id t given many) = RunsTelling many
  RunsNew (iwant time id n) = RunsBoth

  abbrev pub RunsAny : Any → Type 0
  RunsAny (old k) = RunsOld (handed k) k
  RunsAny (new k) = RunsNew k

  abbrev pub Runs : Type 0
  Runs = RunsAny c.call

-- ---- what the list starts from: the 0 that `hivepadlet_gossip_fresh` or `hivepadlet_gossip_load` answered says that set-up numbers and
-- parameters were accepted
abbrev pub edition_in : Start → Option Edition
edition_in start = edition_of (edition_number (sheet start).edition)

pub record OpenedFresh (start : Start) (table gossip : List ℕ) : Type 0 where
  pub was : List ℕ
  pub others : List ℕ
  pub makes : HostsMade start.setup (edition_in start) (sheet start).numbers 0 was table others gossip
  pub begins : start.router.state ≡ fresh_state (sheet start)

-- "Demand 3 reads from a fresh or loaded router" (02, order 8)
pub record OpenedLoad (start : Start) (table gossip : List ℕ) : Type 0 where
  pub was : List ℕ
  pub others : List ℕ
  pub clock : ℕ
  pub bytes : List ℕ
  -- by the type of the C ABI, `uint8_t`
  pub byte : (k : ℕ) → get_or bytes k 0 < 256
  pub loads : HostsLoadAll start.setup (edition_in start) (sheet start).numbers clock bytes 0 was table others gossip
  pub begins : start.router.state ≡ state_of table

pub data Opened (start : Start) (table gossip : List ℕ) : Type 0 where
  by_fresh : OpenedFresh start table gossip → Opened start table gossip
  by_load : OpenedLoad start table gossip → Opened start table gossip

-- table and array are those that a list of a host's calls leaves, the last call first: "Each call gets the tables and the clock that the
-- last one left, and nobody else writes them." Each lends lists of its own, of any length.
unfoldable pub HostedAll : Start → List HostCall → (table gossip : List ℕ) → Type 0
HostedAll start [] table gossip = Opened start table gossip
HostedAll start (c ∷ before) table gossip =
    (given : List ℕ) × (array : List ℕ) × HostedAll start before given array × Runs c given table array gossip

-- ---- the rules' reply to a call, after the calls before it
abbrev pub reply_to : Start → List HostCall → HostCall → FullReply
reply_to start before c = step_all (after_all start (map did before)) c.call (length c.list)

-- the number of each call of the list is that of the rules' reply, its action list begins with the rules' actions, and its list of numbers
-- with the rules' numbers
unfoldable pub SameReplies : Start → List HostCall → Type 0
SameReplies start [] = Unit
SameReplies start (c ∷ before) =
    (c.code ≡ reply_code (reply_to start before c))
    × (c.list' ≡ sets c.list 0 (numbers_of (reply_to start before c).actions))
    × (c.numbers' ≡ sets c.numbers 0 (reply_to start before c).numbers)
    × SameReplies start before

pub record HostAgreesAll (start : Start) (calls : List HostCall) (table gossip : List ℕ) : Type 0 where
  -- "the program's calls give the same answers"
  pub replies : SameReplies start calls
  -- "the tables they leave hold the same joined topics and meshes": the same state, with sets, stores and counts
  pub state : extended_of table gossip ≡ after_all start (map did calls)
  -- it is a router's, "sets, counts and stores [..] within bounds"
  pub whole : Whole (extended_of table gossip)
  -- demand 3 holds of it
  pub demand3 : HoldsAll start (map did calls)
  -- and "bound, [..] to be shown over demand 3's lists, IWANT replies per connection and message while it stays stored": since the later of
  -- the peer's last connect answered 0 and the last moment at which no topic stored the number
  pub bounded :
      (older recent : List HostCall) (peer n : ℕ) →
      calls ≡ recent ++ older →
      Within start (map did older) peer n (map did recent) →
      replies_in start (map did older) peer n (map did recent) ≤ start.setup.replies

-- the parameters are 147 numbers by the type of the C ABI, `params[147]`
abbrev pub EveryHostAgreesAll : Type 0
EveryHostAgreesAll =
    (start : Start) (calls : List HostCall) (table gossip : List ℕ) →
    length (sheet start).numbers ≡ param_count →
    HostedAll start calls table gossip →
    HostAgreesAll start calls table gossip

-- order 5's six lent numbers, after a list: of the score by the rules, and as they stood where the call is refused
abbrev pub EveryScoreAgreesAll : Type 0
EveryScoreAgreesAll =
    (start : Start) (calls : List HostCall) (table gossip : List ℕ) (time id room : ℕ) (why why' : List ℤ) →
    length (sheet start).numbers ≡ param_count →
    HostedAll start calls table gossip →
    why' ≡ why_or (step (state_of table) (score time id) room).answer why →
    why' ≡ why_or (step (base_after start (map did calls)) (score time id) room).answer why
