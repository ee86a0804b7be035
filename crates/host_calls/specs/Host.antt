-- What a host gets of each function of the C ABI: the promise of the call below, with the answer as one number.
use Rattle.std.specs.Prelude.{Option, Some, None}
use Rattle.params.specs.declared.Edition.{Edition}
use Rattle.std.specs.Prelude.{ℕ, ◌≡◌, Bool, true, false, List, length, ℤ}
use Rattle.std.proofs.lemmas.List.Edits.{sets}
use Rattle.std.specs.Borrow.{MutBor}
use denote.Triple.Both.{Both}
use Rattle.records.specs.Records.{State}
use Rattle.layout.specs.View.{state_of}
use Rattle.params.specs.Editions.{sheet}
use Rattle.params.specs.Check.{first_broken, is_nothing}
use Rattle.lookup.specs.Fresh.{made_of, left_by, made_number, made_value}
use Rattle.effects.specs.Actions.{numbers_of}
use Rattle.answers.specs.Answers.{packed, answer_code}
use Rattle.rules.specs.Reply.{refuses}
use Rattle.rules.specs.Calls.{Call}
use Rattle.rules.specs.Step.{step}

-- ---- a call: r is what comes back; table and list are what stood in the lent memory, table' and list' what stands there after it
pub record Hosts (c : Call) (r : ℕ) (table table' list list' : List ℕ) : Type 0 where
  pub answer : r ≡ answer_code (step (state_of table) c (length list)).answer
  pub state : state_of table' ≡ (step (state_of table) c (length list)).state
  pub kept : refuses (step (state_of table) c (length list)).answer ≡ true → table' ≡ table
  pub actions : list' ≡ sets list 0 (numbers_of (step (state_of table) c (length list)).actions)

-- the same of memory that is lent by `&mut`, which has a content at the call's entry and one at its exit
abbrev pub Lent : Type 0
Lent = Both (MutBor (List ℕ)) (MutBor (List ℕ))

abbrev pub HostsLent : Call → ℕ → Lent → Lent → Type 0
HostsLent c r table list = Hosts c r table.entry.now table.exit.now list.entry.now list.exit.now

-- ---- a fresh router, of numbers and the number of their edition: every cell written, or none; a number that is no edition's is out of
-- range (2)
abbrev pub fresh_code : Option Edition → List ℤ → ℕ
fresh_code (Some e) xs = packed (made_number (made_of (first_broken (sheet e xs)))) (made_value (made_of (first_broken (sheet e xs))))
fresh_code None xs = packed 2 0

abbrev pub fresh_left : Option Edition → List ℤ → State → State
fresh_left (Some e) xs st = left_by (first_broken (sheet e xs)) (sheet e xs) st
fresh_left None xs st = st

abbrev pub is_made : Option Edition → List ℤ → Bool
is_made (Some e) xs = is_nothing (first_broken (sheet e xs))
is_made None xs = false

pub record HostsFresh (edition : Option Edition) (xs : List ℤ) (r : ℕ) (table table' : List ℕ) : Type 0 where
  pub answer : r ≡ fresh_code edition xs
  pub state : state_of table' ≡ fresh_left edition xs (state_of table)
  pub kept : is_made edition xs ≡ false → table' ≡ table
