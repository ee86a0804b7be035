-- What the actions of a reply are: exactly who came into a mesh is told GRAFT, exactly who was taken out of it is told PRUNE, each once; so
-- neither end of a link believes what the other does not.
use Rattle.std.specs.Prelude.{ℕ, ◌+◌, ◌<◌, ◌≡◌, ◌≢◌, cond, not, ◌&&◌, List, [], ◌∷◌, eqb, nat_abs}
use Rattle.index.specs.Index.{one}
use Rattle.limits.specs.Limits.{at}
use Rattle.records.specs.Records.{State, slot_count, peer_in}
use Rattle.layout.specs.View.{Sized}
use Rattle.effects.specs.Actions.{Action}
use Rattle.effects.specs.Effects.{is_member}
use Rattle.rules.specs.Reply.{Reply}
use Rattle.rules.specs.Calls.{leave, graft, heartbeat}
use Rattle.rules.specs.Step.{step}
use Rattle.call_lists.specs.Lists.{Start, Made, after}
use Rattle.call_lists.specs.Demand3.{Accepted}

-- how many actions of a kind (1 GRAFT, 2 PRUNE) go to an id
unfoldable pub times : ℕ → ℕ → List Action → ℕ
times k id [] = 0
times k id (a ∷ l) = one (eqb a.kind k && eqb a.id id) + times k id l

-- st is the state handed in, r the reply, t the topic
pub record Told (st : State) (t : ℕ) (r : Reply) : Type 0 where
  -- a connected peer: one GRAFT if it came in, else none; one PRUNE if it was taken out, else none
  pub grafts :
      (s : ℕ) →
      s < slot_count →
      (peer_in st s).status ≡ 1 →
      times 1 (peer_in st s).id r.actions ≡ one (not (is_member st t s) && is_member r.state t s)
  pub prunes :
      (s : ℕ) →
      s < slot_count →
      (peer_in st s).status ≡ 1 →
      times 2 (peer_in st s).id r.actions ≡ one (is_member st t s && not (is_member r.state t s))
  -- and nobody else is told anything
  pub only :
      (k id : ℕ) →
      times k id r.actions ≢ 0 →
      (s : ℕ) × (s < slot_count) × ((peer_in st s).status ≡ 1) × ((peer_in st s).id ≡ id)

abbrev pub ToldIsDone : Type 0
ToldIsDone =
    (st : State) (time t room : ℕ) →
    Sized st →
    Told st t (step st (leave time t) room)
    × ((ask : ℕ) (order : List ℕ) → Told st t (step st (heartbeat time t ask order) room))

-- ---- the seconds that a PRUNE tells
-- P holds of every action
unfoldable pub Each : (Action → Type 0) → List Action → Type 0
Each P [] = Unit
Each P (a ∷ l) = P a × Each P l

-- "the sheet's prune (in a leave, unsubscribe) backoff in seconds (0 for GRAFT and for a 1.0.0 peer)", to the connected peer with the id
abbrev pub Seconds : State → ℕ → Action → Type 0
Seconds st seconds a =
    (s : ℕ) →
    s < slot_count →
    (peer_in st s).status ≡ 1 →
    (peer_in st s).id ≡ a.id →
    a.seconds ≡ cond (eqb a.kind 2) (cond (eqb (peer_in st s).version 0) 0 seconds) 0

-- of the parameters: 5 the prune backoff, 6 the unsubscribe backoff
abbrev pub ToldSeconds : Type 0
ToldSeconds =
    (start : Start) (calls : List Made) →
    Accepted start →
    (time t room : ℕ) →
    Each (Seconds (after start calls) (nat_abs (at start.params.numbers 6))) (step (after start calls) (leave time t) room).actions
    × ((ask : ℕ) (order : List ℕ) →
    Each (Seconds (after start calls) (nat_abs (at start.params.numbers 5)))
    (step (after start calls) (heartbeat time t ask order) room).actions)
    × ((id : ℕ) →
    Each (Seconds (after start calls) (nat_abs (at start.params.numbers 5))) (step (after start calls) (graft time id t) room).actions)
