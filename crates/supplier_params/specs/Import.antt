-- Importing the other supplier's parameters (02, order 12): "A length other than 1323 bytes is 10 at the length; then a wrong kind or
-- broken entry is 9 with the first such index; then 01's tests apply."
use Rattle.std.specs.Prelude.{Option, Some, None, Result, Ok, Err}
use Rattle.params_bytes.specs.declared.ReadError.{ReadError}
use Rattle.params_bytes.specs.declared.ReadError.TheVariants.{Broken, Malformed}
use Rattle.std.specs.Prelude.{◌≡◌, ℕ, ◌*◌, Bool, true, false, cond, List, [], ◌∷◌, eqb, length, take, drop, ℤ}
use Rattle.index.specs.Index.{first, gather}
use Rattle.records.specs.Records.{param_count}
use Rattle.limits.specs.Limits.{field_of, limit_at}
use Rattle.params.specs.Editions.{sheet}
use Rattle.params.specs.declared.Edition.TheVariants.{First}
use Rattle.params.specs.Check.{first_broken}
use Rattle.params_bytes.specs.Read.{Reading, refusal, judged_by}
use Rattle.limits.specs.declared.Limit.{Limit}
use Rattle.supplier_entry.specs.declared.Form.{Form}
use Rattle.supplier_entry.specs.Bytes.{low_first}
use Rattle.supplier_entry.specs.Entries as entries
use Rattle.supplier_params.specs.Forms.{supplier_bytes, form_at}

-- "nine bytes each"
unfoldable pub entry_at : List ℕ → ℕ → List ℕ
entry_at s i = take 9 (drop (9 * i) s)

-- "a kind, then eight bytes, low first"
abbrev pub entry_number : Form → Limit → List ℕ → Option ℤ
entry_number form l [] = None
entry_number form l (kind ∷ bytes) = entries.import_of form l kind (low_first bytes)

-- the number of entry i, with the form and the limits of its field
unfoldable pub number_at : List ℕ → ℕ → Option ℤ
number_at s i = entry_number (form_at (field_of i)) (limit_at (field_of i)) (entry_at s i)

abbrev pub is_broken : Option ℤ → Bool
is_broken (Some z) = false
is_broken None = true

abbrev pub value : Option ℤ → List ℤ
value (Some z) = z ∷ []
value None = []

unfoldable pub broken_at : List ℕ → ℕ → Bool
broken_at s i = is_broken (number_at s i)

unfoldable pub value_at : List ℕ → ℕ → List ℤ
value_at s i = value (number_at s i)

-- what the entries give: all numbers, or the index of the first that is broken
pub data Outcome : Type 0 where
  numbers : List ℤ → Outcome
  broken : ℕ → Outcome

abbrev pub outcome_by : Option ℕ → List ℤ → Outcome
outcome_by (Some i) xs = broken i
outcome_by None xs = numbers xs

unfoldable pub entries_of : List ℕ → Outcome
entries_of s = outcome_by (first param_count (broken_at s)) (gather param_count (value_at s))

-- what a reader of the entries answers, where their numbers stand in xs
abbrev pub Gives : Result (Unit {0}) ReadError → List ℤ → Outcome → Type 0
Gives (Ok t) xs o = numbers xs ≡ o
Gives (Err e) xs o = (i : ℕ) × ((e ≡ Broken i) × (broken i ≡ o))

-- "then 01's tests apply"; by 02, order 14, "order 12 stays edition 1"
abbrev pub judged : Outcome → Reading
judged (numbers xs) = judged_by (first_broken (sheet First xs)) (sheet First xs) supplier_bytes
judged (broken i) = refusal (Err (Broken i))

-- "A length other than 1323 bytes is 10 at the length"
unfoldable pub import_of : List ℕ → Reading
import_of s = cond (eqb (length s) supplier_bytes) (judged (entries_of s)) (refusal (Err (Malformed (length s))))
