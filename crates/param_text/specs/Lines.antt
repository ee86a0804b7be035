-- The parameters as text: an answer's number with its value, and the 147 numbers, one to a line.
use Rattle.std.specs.Prelude.{ℕ, List, [], ◌∷◌, ◌++◌, get_or, ℤ, pos}
use Rattle.records.specs.Records.{param_count}
use Rattle.index.specs.Index.{gather}
use Rattle.text.specs.Text.{decimal, signed_text}

-- two numbers with a space (32) between them, and the end of the line (10)
unfoldable pub head_text : ℕ → ℕ → List ℕ
head_text n v = ((decimal n ++ (32 ∷ [])) ++ decimal v) ++ (10 ∷ [])

unfoldable pub line_text : ℤ → List ℕ
line_text z = signed_text z ++ (10 ∷ [])

abbrev pub line_at : List ℤ → ℕ → List ℕ
line_at xs i = line_text (get_or xs i (pos 0))

unfoldable pub numbers_text : List ℤ → List ℕ
numbers_text xs = gather param_count (line_at xs)
