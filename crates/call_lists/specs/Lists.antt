-- Lists of calls, the last call first: what a whole list leaves, what each call was answered, and which way a peer was connected.
-- A later call joins the list by its constructor (crate rules, specs/Calls.antt) and by a line of `heard`.
use Rattle.std.specs.Prelude.{ℕ, ◌%◌, ◌<◌, ◌≡◌, Bool, false, cond, ◌&&◌, List, [], ◌∷◌, eqb, get_or}
use Rattle.params.specs.declared.Params.{Params}
use Rattle.records.specs.Records.{State}
use Rattle.lookup.specs.Fresh.{fresh_state}
use Rattle.rules.specs.Reply.{number_of}
use Rattle.rules.specs.Calls.{Call, connect, disconnect, join, leave, subscribe, unsubscribe, graft, prune, deliver, rate, heartbeat, decay}
use Rattle.rules.specs.Calls.{score}
use Rattle.rules.specs.Step.{step}
use Rattle.saves.specs.Load.{loaded, load_of}

-- a call, and how many numbers the action list has that it is lent
pub record Made : Type 0 where
  pub call : Call
  pub room : ℕ

-- what a list starts from: the parameters, and a router made with them
pub record Start : Type 0 where
  pub params : Params
  pub state : State

abbrev pub fresh : Params → Start
fresh params = record { params = params; state = fresh_state params }

-- a load of some bytes gave it
pub record Loaded (start : Start) : Type 0 where
  pub fine : Bool
  pub clock : ℕ
  pub bytes : List ℕ
  pub byte : (k : ℕ) → get_or bytes k 0 < 256
  pub load : load_of fine start.params clock bytes ≡ loaded start.state

-- "The list starts from a fresh router [..], all records empty and no topic joined." (01); "Demand 3 reads from a fresh or loaded router;
-- the clock rule starts anew at a load." (02, order 8): the clock of a loaded state is the load's
pub data Begins (start : Start) : Type 0 where
  from_fresh : start.state ≡ fresh_state start.params → Begins start
  from_load : Loaded start → Begins start

-- "Each call gets the tables and the clock that the last one left, and nobody else writes them."
unfoldable pub after : Start → List Made → State
after start [] = start.state
after start (c ∷ before) = (step (after start before) c.call c.room).state

-- the number that call c was answered, after the calls before it
unfoldable pub answered : Start → Made → List Made → ℕ
answered start c before = number_of (step (after start before) c.call c.room).answer

-- the direction of a peer after a call: a connect of it that was answered 0 says it (flags: 1 outbound + 2 explicit), else it stays as it
-- was
abbrev pub heard : Call → Bool → ℕ → Bool → Bool
heard (connect time id groups flags name) done peer was = cond (eqb id peer && done) (eqb (flags % 2) 1) was
heard (disconnect time id) done peer was = was
heard (join time t) done peer was = was
heard (leave time t) done peer was = was
heard (subscribe time id t) done peer was = was
heard (unsubscribe time id t) done peer was = was
heard (graft time id t) done peer was = was
heard (prune time id t seconds) done peer was = was
heard (deliver time id t kind) done peer was = was
heard (rate time id p5) done peer was = was
heard (heartbeat time t ask order) done peer was = was
heard (decay time) done peer was = was
heard (score time id) done peer was = was

-- "A peer is outbound if its last connect answered 0 said so, else inbound."
unfoldable pub outbound : Start → List Made → ℕ → Bool
outbound start [] peer = false
outbound start (c ∷ before) peer = heard c.call (eqb (answered start c before) 0) peer (outbound start before peer)
