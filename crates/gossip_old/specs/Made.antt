-- Making a router with an array, fresh or of a save: what is answered, and what table and array are left.
use Rattle.std.specs.Prelude.{Result, Ok, Err}
use Rattle.saves.specs.declared.LoadError.{LoadError}
use Rattle.lookup.specs.declared.FreshError.{FreshError}
use Rattle.lookup.specs.declared.FreshError.TheVariants.{Broken as FreshBroken}
use Rattle.gossip_old.specs.declared.MakeError.{MakeError}
use Rattle.gossip_old.specs.declared.MakeError.TheVariants.{Broken, OutOfRange}
use Rattle.std.specs.Prelude.{Option, Some, None}
use Rattle.std.specs.Prelude.{ℕ, ◌≡◌, Bool, true, false, cond, List}
use Rattle.params.specs.declared.Params.{Params}
use Rattle.params.specs.Check.{first_broken}
use Rattle.lookup.specs.Fresh.{fresh_state}
use Rattle.saves.specs.Load.{Loading, loaded, out_of_range, broken, bad, answer_of, refuses}
use Rattle.gossip.specs.Notes.{Setup, Extended, fresh_gossip}
use Rattle.gossip.specs.Valid.{setup_ok}
use Rattle.gossip_table.specs.View.{extended_of}

-- ---- what broke a fresh table broke the router
abbrev pub of_fresh : FreshError → MakeError
of_fresh (FreshBroken i) = Broken i

-- ---- a fresh router: the set-up numbers are "given at set-up beside the sheet (else 2, tested before the sheet)"
abbrev pub sheeted : Option ℕ → Result (Unit {0}) MakeError
sheeted (Some i) = Err (Broken i)
sheeted None = Ok tt

abbrev pub is_made : Result (Unit {0}) MakeError → Bool
is_made (Ok tt) = true
is_made (Err OutOfRange) = false
is_made (Err (Broken i)) = false

unfoldable pub making_of : Setup → Params → Result (Unit {0}) MakeError
making_of p all = cond (setup_ok p) (sheeted (first_broken all)) (Err OutOfRange)

abbrev pub made_by : Result (Unit {0}) MakeError → Setup → Params → Extended → Extended
made_by (Ok tt) p all x = record { base = fresh_state all; gossip = fresh_gossip p }
made_by (Err OutOfRange) p all x = x
made_by (Err (Broken i)) p all x = x

-- 01's number of an answer, and the value that goes with it
abbrev pub making_number : Result (Unit {0}) MakeError → ℕ
making_number (Ok tt) = 0
making_number (Err OutOfRange) = 2
making_number (Err (Broken i)) = 9

abbrev pub making_value : Result (Unit {0}) MakeError → ℕ
making_value (Ok tt) = 0
making_value (Err OutOfRange) = 0
making_value (Err (Broken i)) = i

-- r is the answer; table and gossip are what stood there, table' and gossip' what stands there after it
pub record MakesAll (p : Setup) (all : Params) (r : Result (Unit {0}) MakeError) (table table' gossip gossip' : List ℕ) : Type 0 where
  pub answer : r ≡ making_of p all
  pub state : extended_of table' gossip' ≡ made_by r p all (extended_of table gossip)
  pub kept : is_made r ≡ false → (table' ≡ table) × (gossip' ≡ gossip)

-- ---- a load: "A load tests the set-up numbers (2), the sheet (9 as in 01), the clock (2), .." (crate saves), and "all else [is] 0"
abbrev pub loaded_by : Loading → Setup → Extended → Extended
loaded_by (loaded st) p x = record { base = st; gossip = fresh_gossip p }
loaded_by out_of_range p x = x
loaded_by (broken i) p x = x
loaded_by (bad i) p x = x

pub record LoadsAll (o : Loading) (p : Setup) (r : Result (Unit {0}) LoadError) (table table' gossip gossip' : List ℕ) : Type 0 where
  pub answer : r ≡ answer_of o
  pub state : extended_of table' gossip' ≡ loaded_by o p (extended_of table gossip)
  pub kept : refuses r ≡ true → (table' ≡ table) × (gossip' ≡ gossip)
