-- "Every call is proved to answer and act as in the old form" (02, order 10), of the calls with the array of orders 6 and 7: the array is
-- beside a table of either form. Of the thirteen calls on the table alone: forms/Same.antt.
use Rattle.std.specs.Prelude.{ℕ, ◌≡◌, true, List, length}
use Rattle.std.proofs.lemmas.List.Edits.{sets}
use Rattle.layout.specs.View.{state_of}
use Rattle.rows.specs.View.{rows_count, state_of_rows}
use Rattle.effects.specs.Actions.{numbers_of}
use Rattle.gossip.specs.Notes.{Extended}
use Rattle.gossip.specs.Calls.{Any}
use Rattle.gossip.specs.Step.{FullReply, step_all}
use Rattle.gossip_table.specs.View.{gossip_of}
use Rattle.gossip_gate.specs.Promise.{reply_code, refusal, FollowsAll}

-- the state that a table of the old form and the array hold
abbrev pub extended_of_rows : List ℕ → List ℕ → Extended
extended_of_rows rows gossip = record { base = state_of_rows rows; gossip = gossip_of gossip }

-- rows and gossip stood there, rows' and gossip' stand there after it; o is the rules' reply
pub record OldGives (o : FullReply) (r : ℕ) (rows rows' gossip gossip' list list' : List ℕ) : Type 0 where
  pub answer : r ≡ reply_code o
  pub base : state_of_rows rows' ≡ o.state.base
  pub others : gossip_of gossip' ≡ o.state.gossip
  pub kept : refusal o.answer ≡ true → (rows' ≡ rows) × (gossip' ≡ gossip)
  pub actions : list' ≡ sets list 0 (numbers_of o.actions)

abbrev pub OldFollowsAll : Any → ℕ → (rows rows' gossip gossip' list list' : List ℕ) → Type 0
OldFollowsAll c r rows rows' gossip gossip' list list' =
    OldGives (step_all (extended_of_rows rows gossip) c (length list)) r rows rows' gossip gossip' list list'

-- a call on a table of the form of today, and tables of the old form that hold the same states before it and after it
abbrev pub SameCallsAll : Type 0
SameCallsAll =
    (c : Any) (r : ℕ) (table table' rows rows' gossip gossip' list list' : List ℕ) →
    length rows ≡ rows_count →
    length rows' ≡ rows_count →
    state_of_rows rows ≡ state_of table →
    state_of_rows rows' ≡ state_of table' →
    FollowsAll c r table table' gossip gossip' list list' →
    OldFollowsAll c r rows rows' gossip gossip' list list'
