-- What a host gets of making a router with the array of orders 6 and 7, fresh or of a save: the promise of the crate below, with the answer
-- as one number.
use Rattle.std.specs.Prelude.{Result, Err}
use Rattle.gossip_old.specs.declared.MakeError.{MakeError}
use Rattle.gossip_old.specs.declared.MakeError.TheVariants.{OutOfRange}
use Rattle.std.specs.Prelude.{Option, Some, None}
use Rattle.params.specs.declared.Edition.{Edition}
use Rattle.std.specs.Prelude.{ℕ, ◌≡◌, true, false, List, [], ◌∷◌, ℤ}
use Rattle.answers.specs.Answers.{packed}
use Rattle.params.specs.Editions.{sheet}
use Rattle.saves.specs.Load.{Loading, out_of_range, load_of, answer_of, refuses}
use Rattle.host_saves.specs.Saving.{load_code}
use Rattle.gossip.specs.Notes.{Setup, Extended}
use Rattle.gossip.specs.Valid.{setup_ok}
use Rattle.gossip_table.specs.View.{setup_of, extended_of}
use Rattle.gossip_old.specs.Made.{making_of, made_by, is_made, making_number, making_value, loaded_by}

-- ---- the ordinary set-up numbers, gossipsub's usual defaults: 10 IDONTWANT numbers per record and heartbeat, D_lazy 6, a gossip factor of
-- 0.25, 10 IHAVE messages per record and heartbeat, 3 IWANT replies per connection and message
abbrev pub ordinary_setup : List ℕ
ordinary_setup = 10 ∷ 6 ∷ 250 ∷ 10 ∷ 3 ∷ []

-- they are in their ranges
abbrev pub OrdinaryPasses : Type 0
OrdinaryPasses = setup_ok (setup_of ordinary_setup) ≡ true

-- ---- a fresh router: a number that is no edition's is out of range (2), as a set-up number is
abbrev pub making_by : Setup → Option Edition → List ℤ → Result (Unit {0}) MakeError
making_by p (Some e) xs = making_of p (sheet e xs)
making_by p None xs = Err OutOfRange

abbrev pub making_code : Result (Unit {0}) MakeError → ℕ
making_code m = packed (making_number m) (making_value m)

abbrev pub making_left : Setup → Option Edition → List ℤ → Extended → Extended
making_left p (Some e) xs x = made_by (making_of p (sheet e xs)) p (sheet e xs) x
making_left p None xs x = x

-- table and gossip are what stood in the lent memory, table' and gossip' what stands there after it: all of it written, or none
pub record HostsMade (p : Setup) (edition : Option Edition) (xs : List ℤ) (r : ℕ) (table table' gossip gossip' : List ℕ) : Type 0 where
  pub answer : r ≡ making_code (making_by p edition xs)
  pub state : extended_of table' gossip' ≡ making_left p edition xs (extended_of table gossip)
  pub kept : is_made (making_by p edition xs) ≡ false → (table' ≡ table) × (gossip' ≡ gossip)

-- ---- a router of a save
abbrev pub loading_all_by : Setup → Option Edition → List ℤ → ℕ → List ℕ → Loading
loading_all_by p (Some e) xs clock s = load_of (setup_ok p) (sheet e xs) clock s
loading_all_by p None xs clock s = out_of_range

-- table and array are written where the bytes are loaded, and stand where they are refused
pub record HostsLoadAll
    (p : Setup)
    (edition : Option Edition)
    (xs : List ℤ)
    (clock : ℕ)
    (s : List ℕ)
    (r : ℕ)
    (table table' gossip gossip' : List ℕ) : Type 0 where
  pub answer : r ≡ load_code (loading_all_by p edition xs clock s)
  pub state : extended_of table' gossip' ≡ loaded_by (loading_all_by p edition xs clock s) p (extended_of table gossip)
  pub kept : refuses (answer_of (loading_all_by p edition xs clock s)) ≡ true → (table' ≡ table) × (gossip' ≡ gossip)
