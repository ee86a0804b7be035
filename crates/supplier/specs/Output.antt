-- What the program answers to its input: a mode and the bytes after it. The comparison with the second program goes by this form.
use Rattle.std.specs.Prelude.{Option, Some, None, Result, Ok, Err}
use Rattle.params_bytes.specs.declared.ReadError.{ReadError}
use Rattle.params_bytes.specs.declared.ReadError.TheVariants.{Broken, Malformed}
use Rattle.std.specs.Prelude.{ℕ, ◌+◌, ◌/◌, ◌%◌, ◌^◌, ◌<◌, ◌≤◌, cond, List, [], ◌∷◌, ◌++◌, ltb, eqb, ℤ, length}
use Rattle.records.specs.Records.{param_count}
use Rattle.index.specs.Index.{gather}
use Rattle.text.specs.Text.{decimal}
use Rattle.param_text.specs.Lines.{head_text, numbers_text}
use Rattle.params.specs.Check.{first_broken}
use Rattle.params_bytes.specs.Read.{Reading, read_of}
use Rattle.params_bytes.specs.Write.{form_of}
use Rattle.supplier_params.specs.Forms.{supplier_bytes}
use Rattle.supplier_params.specs.Import.{import_of, entry_at}
use Rattle.supplier_params.specs.Export.{broken_first, bytes_of}

-- the line `0`
abbrev pub done_text : List ℕ
done_text = 48 ∷ 10 ∷ []

-- ---- `i`: 01's number and the value that goes with it, or `0` and the numbers
abbrev pub numbers_output : Result ℕ ReadError → List ℤ → List ℕ
numbers_output (Ok n) xs = done_text ++ numbers_text xs
numbers_output (Err (Malformed place)) xs = head_text 10 place
numbers_output (Err (Broken i)) xs = head_text 9 i

unfoldable pub import_text : Reading → List ℕ
import_text r = numbers_output r.verdict r.params.numbers

-- ---- `e`: the same, or `0` and the entries; each has its kind, a space (32), its eight bytes as they stand in the file, and an end of
-- line (10)
abbrev pub hex_digit : ℕ → ℕ
hex_digit d = cond (ltb d 10) (48 + d) (87 + d)

unfoldable pub hex_text : List ℕ → List ℕ
hex_text [] = []
hex_text (b ∷ s) = hex_digit (b / 16) ∷ hex_digit (b % 16) ∷ hex_text s

abbrev pub entry_text : List ℕ → List ℕ
entry_text [] = []
entry_text (kind ∷ bytes) = ((decimal kind ++ (32 ∷ [])) ++ hex_text bytes) ++ (10 ∷ [])

abbrev pub entry_text_at : List ℕ → ℕ → List ℕ
entry_text_at s i = entry_text (entry_at s i)

unfoldable pub entries_text : List ℕ → List ℕ
entries_text s = gather param_count (entry_text_at s)

abbrev pub entries_output : Option ℕ → List ℤ → List ℕ
entries_output (Some i) xs = head_text 9 i
entries_output None xs = done_text ++ entries_text (bytes_of xs)

abbrev pub export_output : Result ℕ ReadError → List ℤ → List ℕ
export_output (Ok n) xs = entries_output (broken_first xs) xs
export_output (Err (Malformed place)) xs = head_text 10 place
export_output (Err (Broken i)) xs = head_text 9 i

unfoldable pub export_text : Reading → List ℕ
export_text r = export_output r.verdict r.params.numbers

-- ---- `I` and `E`: the bytes of parameters that are not broken, `E` by 01's rules, or nothing
abbrev pub unless : Option ℕ → List ℕ → List ℕ
unless (Some i) bytes = []
unless None bytes = bytes

abbrev pub allowed : Result ℕ ReadError → Option ℕ → List ℕ → List ℕ
allowed (Ok n) f bytes = unless f bytes
allowed (Err e) f bytes = []

unfoldable pub import_bytes : Reading → List ℕ
import_bytes r = allowed r.verdict (first_broken r.params) (form_of r.params)

unfoldable pub export_bytes : Reading → List ℕ
export_bytes r =
    allowed r.verdict (broken_first r.params.numbers) (bytes_of r.params.numbers)

-- ---- by the mode: 105 is `i`, 101 `e`, 73 `I`, 69 `E`
unfoldable pub output_of : ℕ → List ℕ → List ℕ
output_of mode s =
    cond (eqb mode 105) (import_text (import_of s))
    (cond (eqb mode 101) (export_text (read_of s))
    (cond (eqb mode 73) (import_bytes (import_of s))
    (cond (eqb mode 69) (export_bytes (read_of s))
    (head_text 2 0))))

-- ---- what the program lends: two pages, and the bytes of the input, of which the first 4,096 are there where `rest` more follow
pub record Room (buf page bytes : List ℕ) (rest : ℕ) : Type 0 where
  pub out : 4096 ≤ length buf
  pub lent : supplier_bytes ≤ length page
  pub front : 0 < rest → 4096 ≤ length bytes
  pub all : length bytes + rest < 2 ^ 64
