-- What the program prints of a reading: 01's number and the value that goes with it, and where the parameters were accepted their 147
-- numbers, one to a line. The comparison with the second program goes by this form.
use Rattle.std.specs.Prelude.{Result, Ok, Err}
use Rattle.params_bytes.specs.declared.ReadError.{ReadError}
use Rattle.params_bytes.specs.declared.ReadError.TheVariants.{Broken, Malformed}
use Rattle.std.specs.Prelude.{ℕ, List, [], ◌++◌, ℤ}
use Rattle.param_text.specs.Lines.{head_text, numbers_text}
use Rattle.params_bytes.specs.Read.{Reading, verdict_number, verdict_value}

-- the lines after the first
abbrev pub rest_text : Result ℕ ReadError → List ℤ → List ℕ
rest_text (Ok n) xs = numbers_text xs
rest_text (Err (Malformed place)) xs = []
rest_text (Err (Broken i)) xs = []

unfoldable pub shown_text : Reading → List ℕ
shown_text r =
    head_text (verdict_number r.verdict) (verdict_value r.verdict) ++ rest_text r.verdict r.params.numbers
