-- "Every call is proved to answer and act as in the old form" (02, order 10).
use Rattle.std.specs.Prelude.{Result}
use Rattle.forms.specs.declared.TurnError.{TurnError}
use Rattle.std.specs.Prelude.{ℕ, ◌≡◌, true, List, length}
use Rattle.std.proofs.lemmas.List.Edits.{sets}
use Rattle.effects.specs.Actions.{numbers_of}
use Rattle.layout.specs.View.{state_of}
use Rattle.rows.specs.View.{rows_count, state_of_rows, cells_of}
use Rattle.validity.specs.Valid.{valid}
use Rattle.rules.specs.declared.Answer.{Answer}
use Rattle.rules.specs.Reply.{refuses}
use Rattle.rules.specs.Calls.{Call}
use Rattle.rules.specs.Step.{step}
use Rattle.rules.specs.Promise.{Follows}
use Rattle.forms.specs.Turns.{FromRows, ToRows}

-- the promise of a call on a table of the old form, as it was: rows stood there, and rows' stands there after it
pub record OldFollows (c : Call) (r : Answer) (rows rows' list list' : List ℕ) : Type 0 where
  pub answer : r ≡ (step (state_of_rows rows) c (length list)).answer
  pub state : state_of_rows rows' ≡ (step (state_of_rows rows) c (length list)).state
  pub kept : refuses r ≡ true → rows' ≡ rows
  pub actions : list' ≡ sets list 0 (numbers_of (step (state_of_rows rows) c (length list)).actions)

-- a call on a table of the form of today, and tables of the old form that hold the same states before it and after it
abbrev pub SameCalls : Type 0
SameCalls =
    (c : Call) (r : Answer) (table table' rows rows' list list' : List ℕ) →
    length rows ≡ rows_count →
    length rows' ≡ rows_count →
    state_of_rows rows ≡ state_of table →
    state_of_rows rows' ≡ state_of table' →
    Follows c r table table' list list' →
    OldFollows c r rows rows' list list'

-- there is such a table of the old form for every table, a router's or not
abbrev pub HasRows : Type 0
HasRows = (table : List ℕ) → (length (cells_of (state_of table)) ≡ rows_count) × (state_of_rows (cells_of (state_of table)) ≡ state_of table)

-- a call between two turns: a router's table of the old form is turned, the call is made, and what it leaves is turned back
abbrev pub SameBetween : Type 0
SameBetween =
    (c : Call) (r : Answer) (p q : Result (Unit {0}) TurnError) (rows rows' table table₁ table₂ out list list' : List ℕ) →
    length rows ≡ rows_count →
    length rows' ≡ rows_count →
    valid (state_of_rows rows) ≡ true →
    FromRows p rows table table₁ →
    Follows c r table₁ table₂ list list' →
    ToRows q table₂ out rows' →
    OldFollows c r rows rows' list list'
