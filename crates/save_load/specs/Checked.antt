-- What the tests of a load come to: a refusal, or how many records stand where, all fit to be stored.
use Rattle.std.specs.Prelude.{None, Result, Ok, Err}
use Rattle.std.specs.Prelude.{ℕ, ◌*◌, ◌≤◌, ◌≡◌, List, map, length}
use Rattle.varint.specs.Codes.{code_of}
use Rattle.params.specs.declared.Params.{Params}
use Rattle.params.specs.Check.{first_broken}
use Rattle.records.specs.Records.{slot_count, param_count}
use Rattle.validity.specs.Valid.{max_time}
use Rattle.saves.specs.Save.{row_size}
use Rattle.saves.specs.declared.LoadError.{LoadError}
use Rattle.saves.specs.Load.{numbers, parse_from, loaded_state, Loading, loaded, answer_of}
use Rattle.save_load.specs.Store.{Loadable}

-- parameters that pass their check, by their codes
pub record Coded (p : Params) (codes : List ℕ) : Type 0 where
  pub size : length p.numbers ≡ param_count
  pub passes : first_broken p ≡ None
  pub same : codes ≡ map code_of p.numbers

pub record Good (p : Params) (clock : ℕ) (s : List ℕ) (o : Loading) (n at : ℕ) : Type 0 where
  pub few : n ≤ slot_count
  pub fits : Loadable s at n
  pub gives : (l : List ℕ) (end : ℕ) → parse_from (n * row_size) s at ≡ numbers l end → o ≡ loaded (loaded_state p clock n l)

abbrev pub Says : Params → ℕ → List ℕ → Loading → Result (ℕ × ℕ) LoadError → Type 0
Says p clock s o (Err e) = Err e ≡ answer_of o
Says p clock s o (Ok (n, at)) = Good p clock s o n at

-- the same with the parameters' own test and the clock's
pub record Admits (p : Params) (clock : ℕ) : Type 0 where
  pub passes : first_broken p ≡ None
  pub early : clock ≤ max_time

abbrev pub Checks : Params → ℕ → List ℕ → Loading → Result (ℕ × ℕ) LoadError → Type 0
Checks p clock s o (Err e) = Err e ≡ answer_of o
Checks p clock s o (Ok (n, at)) = Good p clock s o n at × Admits p clock
