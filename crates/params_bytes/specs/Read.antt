-- Reading the parameters from bytes (01, numbers 10 and 9, in that order): 147 numbers, each by its code in seven-bit groups, behind the
-- front that tells their edition.
use Rattle.std.specs.Prelude.{◌≡◌, Option, Some, None, Result, Ok, Err}
use Rattle.params_bytes.specs.declared.ReadError.{ReadError}
use Rattle.params_bytes.specs.declared.ReadError.TheVariants.{Broken, Malformed}
use Rattle.std.specs.Prelude.{ℕ, zero, suc, ◌+◌, cond, ◌&&◌, List, [], ◌∷◌, ◌++◌, eqb, ltb, length, get_or, replicate, ℤ, pos}
use Rattle.varint.specs.Groups.{read_at}
use Rattle.varint.specs.Codes.{number_of}
use Rattle.params.specs.declared.Edition.{Edition}
use Rattle.params.specs.declared.Edition.TheVariants.{First, Second}
use Rattle.params.specs.declared.Params.{Params}
use Rattle.params.specs.Editions.{sheet}
use Rattle.params.specs.Check.{first_broken}
use Rattle.records.specs.Records.{param_count}

-- the numbers and the place after them, or the place at which they cannot go on
pub data Parse : Type 0 where
  numbers : List ℤ → ℕ → Parse
  malformed : ℕ → Parse

abbrev pub then : List ℤ → Parse → Parse
then xs (numbers ys next) = numbers (xs ++ ys) next
then xs (malformed p) = malformed p

-- "place of the first bad number's first byte"; "the length if bytes end between numbers" is such a place too
abbrev pub step : (ℕ → Parse) → ℕ → Option (ℕ × ℕ) → Parse
step rest at None = malformed at
step rest at (Some (u, next)) = then (number_of u ∷ []) (rest next)

-- n numbers from a place on
unfoldable pub parse_from : ℕ → List ℕ → ℕ → Parse
parse_from zero s at = numbers [] at
parse_from (suc n) s at = step (λ next. parse_from n s next) at (read_at 18446744073709551615 s at)

-- ---- the edition
-- "Edition 2 of the sheet has the bytes 00 02 in front [..]; the bare 147 numbers are edition 1": every other front is edition 1's. Of
-- parameters that begin at a place: others may stand before them, as in a trace
unfoldable pub edition_at : List ℕ → ℕ → Edition
edition_at s at = cond (eqb (get_or s at 0) 0 && eqb (get_or s (at + 1) 0) 2) Second First

abbrev pub edition_in : List ℕ → Edition
edition_in s = edition_at s 0

abbrev pub front_bytes : Edition → List ℕ
front_bytes First = []
front_bytes Second = 0 ∷ 2 ∷ []

-- all numbers, behind the front; so places count its bytes, and those before it
unfoldable pub parse_at : List ℕ → ℕ → Parse
parse_at s at = parse_from param_count s (at + length (front_bytes (edition_at s at)))

abbrev pub parse_all : List ℕ → Parse
parse_all s = parse_at s 0

-- what a reader of numbers that are not yet checked answers, where they stand in xs
abbrev pub Parses : Result ℕ ReadError → List ℤ → Parse → Type 0
Parses (Ok next) xs p = numbers xs next ≡ p
Parses (Err e) xs p = (place : ℕ) × ((e ≡ Malformed place) × (malformed place ≡ p))

-- "bytes left over": "place of the first byte left over"
abbrev pub ending : List ℕ → Parse → Parse
ending s (numbers xs next) = cond (ltb next (length s)) (malformed next) (numbers xs next)
ending s (malformed p) = malformed p

-- ---- what is answered
-- the verdict, and the parameters
pub record Reading : Type 0 where
  pub verdict : Result ℕ ReadError
  pub params : Params

abbrev pub told_with : Params → Result ℕ ReadError → Result (Params × ℕ) ReadError
told_with p (Ok n) = Ok (p, n)
told_with p (Err e) = Err e

-- as a function answers it: a refusal has no parameters
abbrev pub told : Reading → Result (Params × ℕ) ReadError
told r = told_with r.params r.verdict

-- a refusal holds 147 zeros for the parameters
abbrev pub refusal : Result ℕ ReadError → Reading
refusal v = record { verdict = v; params = record { numbers = replicate param_count (pos 0); edition = First } }

abbrev pub judged_by : Option ℕ → Params → ℕ → Reading
judged_by (Some i) p next = refusal (Err (Broken i))
judged_by None p next = record { verdict = Ok next; params = p }

abbrev pub judged : Edition → Parse → Reading
judged e (numbers xs next) = judged_by (first_broken (sheet e xs)) (sheet e xs) next
judged e (malformed p) = refusal (Err (Malformed p))

-- all the bytes are the parameters
unfoldable pub read_of : List ℕ → Reading
read_of s = judged (edition_in s) (ending s (parse_all s))

-- the parameters begin at a place, and other bytes may follow them
unfoldable pub front_at : List ℕ → ℕ → Reading
front_at s at = judged (edition_at s at) (parse_at s at)

-- 01's number of each verdict, and the value that goes with it
abbrev pub verdict_number : Result ℕ ReadError → ℕ
verdict_number (Ok n) = 0
verdict_number (Err (Malformed place)) = 10
verdict_number (Err (Broken i)) = 9

abbrev pub verdict_value : Result ℕ ReadError → ℕ
verdict_value (Ok n) = n
verdict_value (Err (Malformed place)) = place
verdict_value (Err (Broken i)) = i
