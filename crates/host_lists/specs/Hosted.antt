-- The C ABI's functions, one after the other on one table: what comes back and what is left is what the rules give (01: "the program's
-- calls give the same answers, and the tables they leave hold the same joined topics and meshes"). Of the functions only their promises are
-- taken (crate host, specs/Host.antt).
use Rattle.std.specs.Prelude.{Option}
use Rattle.params.specs.declared.Edition.{Edition}
use Rattle.std.specs.Prelude.{ℕ, ◌<◌, ◌≡◌, List, [], ◌∷◌, map, ℤ, length, get_or}
use Rattle.std.proofs.lemmas.List.Edits.{sets}
use Rattle.params.specs.Editions.{edition_number, edition_of}
use Rattle.records.specs.Records.{param_count}
use Rattle.layout.specs.View.{state_of}
use Rattle.lookup.specs.Fresh.{fresh_state}
use Rattle.effects.specs.Actions.{numbers_of}
use Rattle.answers.specs.Answers.{answer_code, why_or}
use Rattle.rules.specs.Reply.{Reply}
use Rattle.rules.specs.Calls.{Call, score}
use Rattle.rules.specs.Step.{step}
use Rattle.host_calls.specs.Host.{Hosts, HostsFresh}
use Rattle.host_saves.specs.Saving.{HostsLoad}
use Rattle.call_lists.specs.Lists.{Made, Start, after}
use Rattle.call_lists.specs.Demand3.{Holds}

-- a host's call, the number that came back, and the action list that it lent: what stood there, and what stands there after it
pub record HostCall : Type 0 where
  pub call : Call
  pub code : ℕ
  pub list : List ℕ
  pub list' : List ℕ

-- the same call in a list of the rules
abbrev pub made : HostCall → Made
made c = record { call = c.call; room = length c.list }

-- ---- what the list starts from: the 0 that `hivepadlet_fresh` or `hivepadlet_load` answered says that the parameters were accepted
abbrev pub edition_in : Start → Option Edition
edition_in start = edition_of (edition_number start.params.edition)

pub record OpenedFresh (start : Start) (table : List ℕ) : Type 0 where
  pub was : List ℕ
  pub makes : HostsFresh (edition_in start) start.params.numbers 0 was table
  pub begins : start.state ≡ fresh_state start.params

-- "Demand 3 reads from a fresh or loaded router" (02, order 8)
pub record OpenedLoad (start : Start) (table : List ℕ) : Type 0 where
  pub was : List ℕ
  pub clock : ℕ
  pub bytes : List ℕ
  -- by the type of the C ABI, `uint8_t`
  pub byte : (k : ℕ) → get_or bytes k 0 < 256
  pub loads : HostsLoad (edition_in start) start.params.numbers clock bytes 0 was table
  pub begins : start.state ≡ state_of table

pub data Opened (start : Start) (table : List ℕ) : Type 0 where
  by_fresh : OpenedFresh start table → Opened start table
  by_load : OpenedLoad start table → Opened start table

-- the table is one that a list of a host's calls leaves, the last call first: "Each call gets the tables and the clock that the last one
-- left, and nobody else writes them." Each lends a list of its own, of any length.
unfoldable pub Hosted : Start → List HostCall → List ℕ → Type 0
Hosted start [] table = Opened start table
Hosted start (c ∷ before) table =
    (given : List ℕ) × Hosted start before given × Hosts c.call c.code given table c.list c.list'

-- the rules' reply to a call, after the calls before it
abbrev pub reply_to : Start → List HostCall → HostCall → Reply
reply_to start before c = step (after start (map made before)) c.call (length c.list)

-- the number of each call of the list is that of the rules' answer, and its action list begins with the rules' actions
unfoldable pub SameNumbers : Start → List HostCall → Type 0
SameNumbers start [] = Unit
SameNumbers start (c ∷ before) =
    (c.code ≡ answer_code (reply_to start before c).answer)
    × (c.list' ≡ sets c.list 0 (numbers_of (reply_to start before c).actions))
    × SameNumbers start before

pub record HostAgrees (start : Start) (calls : List HostCall) (table : List ℕ) : Type 0 where
  -- "the program's calls give the same answers"
  pub numbers : SameNumbers start calls
  -- "the tables they leave hold the same joined topics and meshes": the same state
  pub state : state_of table ≡ after start (map made calls)
  -- and demand 3 holds of it
  pub demand3 : Holds start (map made calls)

-- the parameters are 147 numbers by the type of the C ABI, `params[147]`
abbrev pub EveryHostAgrees : Type 0
EveryHostAgrees =
    (start : Start) (calls : List HostCall) (table : List ℕ) →
    length start.params.numbers ≡ param_count →
    Hosted start calls table →
    HostAgrees start calls table

-- order 5's six lent numbers, after a list: of the score by the rules, and as they stood where the call is refused
abbrev pub EveryScoreAgrees : Type 0
EveryScoreAgrees =
    (start : Start) (calls : List HostCall) (table : List ℕ) (time id room : ℕ) (why why' : List ℤ) →
    length start.params.numbers ≡ param_count →
    Hosted start calls table →
    why' ≡ why_or (step (state_of table) (score time id) room).answer why →
    why' ≡ why_or (step (after start (map made calls)) (score time id) room).answer why
