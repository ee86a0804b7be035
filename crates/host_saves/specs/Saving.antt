-- What a host gets of saving and loading (02, order 8): the promise of the crates below, with the answer as one number.
use Rattle.std.specs.Prelude.{Option, Some, None}
use Rattle.std.specs.Prelude.{ℕ, ◌≤◌, ◌≡◌, true, List, ℤ, take}
use Rattle.answers.specs.Answers.{packed}
use Rattle.layout.specs.View.{state_of}
use Rattle.params.specs.declared.Edition.{Edition}
use Rattle.params.specs.Editions.{sheet}
use Rattle.validity.specs.Valid.{max_time}
use Rattle.saves.specs.Save.{saving_of, saved_number, saved_value}
use Rattle.saves.specs.Load.{Loading, out_of_range, load_of, answer_of, left_by, refuses, loaded_number, loaded_value}
use Rattle.saves.specs.Promises.{Sheet, Remembered}

-- the most bytes that a save takes: an edition (1), a count (2), and for each of 256 records an id (5), a retain time (4), P5 (5), P7 (3),
-- and for each of 8 topics P2 (3), P3 (3), P3b (6), P4 (3) and a backoff (4). Include/hivepadlet.h tells it to a reader of C
abbrev pub longest_save : ℕ
longest_save = 43267

-- the table is read only; buf and buf' are what stood in the lent buffer and what stands there after it
pub record HostsSave (table : List ℕ) (time r : ℕ) (buf buf' : List ℕ) : Type 0 where
  pub answer :
      r
      ≡ packed (saved_number (saving_of (state_of table) time buf).answer) (saved_value (saving_of (state_of table) time buf).answer)
  pub bytes : buf' ≡ (saving_of (state_of table) time buf).bytes

-- a number that is no edition's is out of range (2)
abbrev pub loading_by : Option Edition → List ℤ → ℕ → List ℕ → Loading
loading_by (Some e) xs clock s = load_of true (sheet e xs) clock s
loading_by None xs clock s = out_of_range

abbrev pub load_code : Loading → ℕ
load_code o = packed (loaded_number (answer_of o)) (loaded_value (answer_of o))

-- the lent table is written where the bytes are loaded, and stands where they are refused
pub record HostsLoad (edition : Option Edition) (xs : List ℤ) (clock : ℕ) (s : List ℕ) (r : ℕ) (table table' : List ℕ) : Type 0 where
  pub answer : r ≡ load_code (loading_by edition xs clock s)
  pub state : state_of table' ≡ left_by (loading_by edition xs clock s) (state_of table)
  pub kept : refuses (answer_of (loading_by edition xs clock s)) ≡ true → table' ≡ table

-- over a power cycle: the n bytes of a save that was answered 0 load with the parameters of its router, at any clock, and what was saved is
-- remembered
abbrev pub CyclesRemember : Type 0
CyclesRemember =
    (e : Edition) (xs : List ℤ) (table : List ℕ) (time n : ℕ) (buf buf' : List ℕ) (clock r : ℕ) (fresh fresh' : List ℕ) →
    Sheet (state_of table) (sheet e xs) →
    HostsSave table time (packed 0 n) buf buf' →
    clock ≤ max_time →
    HostsLoad (Some e) xs clock (take n buf') r fresh fresh' →
    (r ≡ 0) × Remembered (state_of table) time (state_of fresh') clock
