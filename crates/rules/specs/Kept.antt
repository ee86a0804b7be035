-- What holds of every call at once: "Tables are a router's if [..]. Each call keeps this so", and its actions fit the lent list.
-- To be changed with the list of calls (specs/Calls.antt) only: a later call joins the list there.
use Rattle.std.specs.Prelude.{ℕ, ◌*◌, ◌≤◌, ◌≡◌, true, List, ◌++◌, length, drop}
use Rattle.records.specs.Records.{State}
use Rattle.layout.specs.View.{Sized, state_of}
use Rattle.validity.specs.Valid.{valid}
use Rattle.effects.specs.Actions.{numbers_of}
use Rattle.rules.specs.declared.Answer.{Answer}
use Rattle.rules.specs.Reply.{actions_of}
use Rattle.rules.specs.Calls.{Call}
use Rattle.rules.specs.Step.{step}
use Rattle.rules.specs.Promise.{Follows}

-- for every state with a table's sizes, every call with every argument, and every size of the lent list, refused calls too
abbrev pub KeepsRouter : Type 0
KeepsRouter =
    (st : State) (c : Call) (room : ℕ) → Sized st → valid st ≡ true → valid (step st c room).state ≡ true

-- and the sizes of the lists stay a table's
abbrev pub KeepsSizes : Type 0
KeepsSizes = (st : State) (c : Call) (room : ℕ) → Sized st → Sized (step st c room).state

-- the numbers of its actions are no more than the lent list has room for; for every state, a router's or not, and refused calls have none
abbrev pub FitsList : Type 0
FitsList = (st : State) (c : Call) (room : ℕ) → length (numbers_of (step st c room).actions) ≤ room

-- so a call that keeps its promise drops none: the list begins with three numbers for each action that the answer counts, and past them it
-- is as it was
abbrev pub WritesAll : Type 0
WritesAll =
    (c : Call) (r : Answer) (table table' list list' : List ℕ) →
    Follows c r table table' list list' →
    list' ≡ numbers_of (step (state_of table) c (length list)).actions ++ drop (3 * actions_of r) list
