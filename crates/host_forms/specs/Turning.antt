-- What a host gets of the two functions over the table's old form (02, order 10): the promise of the crate below, with the answer as one
-- number.
use Rattle.std.specs.Prelude.{ℕ, ◌≡◌, Bool, true, false, List, length}
use Rattle.answers.specs.Answers.{packed}
use Rattle.layout.specs.View.{state_of}
use Rattle.rows.specs.View.{rows_count, state_of_rows}
use Rattle.validity.specs.Valid.{valid}
use Rattle.forms.specs.Turns.{turned_of, turned_number, SameCells}

-- 0, or 12 where the table to be turned is no router's
abbrev pub turned_code : Bool → ℕ
turned_code b = packed (turned_number (turned_of b)) 0

-- the lent table is written where the other is a router's, and stands where it is none
pub record HostsFromOld (old : List ℕ) (r : ℕ) (table table' : List ℕ) : Type 0 where
  pub answer : r ≡ turned_code (valid (state_of_rows old))
  pub state : valid (state_of_rows old) ≡ true → state_of table' ≡ state_of_rows old
  pub kept : valid (state_of_rows old) ≡ false → table' ≡ table

pub record HostsToOld (table : List ℕ) (r : ℕ) (old old' : List ℕ) : Type 0 where
  pub answer : r ≡ turned_code (valid (state_of table))
  pub state : valid (state_of table) ≡ true → state_of_rows old' ≡ state_of table
  pub kept : valid (state_of table) ≡ false → old' ≡ old

-- "without loss": a table of the old form that was turned (0) comes back cell by cell
abbrev pub OldReturns : Type 0
OldReturns =
    (r q : ℕ) (old old' table table' out : List ℕ) →
    length old ≡ rows_count →
    length old' ≡ rows_count →
    HostsFromOld old r table table' →
    HostsToOld table' q out old' →
    r ≡ 0 →
    (q ≡ 0) × (old' ≡ old)

-- and one of today with its state and its cells in use
abbrev pub TodayReturns : Type 0
TodayReturns =
    (r q : ℕ) (old old' table table' out : List ℕ) →
    HostsToOld table r old old' →
    HostsFromOld old' q out table' →
    r ≡ 0 →
    (q ≡ 0) × (state_of table' ≡ state_of table) × SameCells table' table
