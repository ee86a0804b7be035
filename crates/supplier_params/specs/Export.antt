-- Exporting parameters as the other supplier's (02, order 12): "Writing one, a buffer under 1323 bytes is 13, then a broken sheet 9; each
-- factor is n divided by 1000, and importing that gives n." 01's rules are asked of parameters of either edition.
use Rattle.std.specs.Prelude.{Option, Some, None, Result, Ok, Err}
use Rattle.params_bytes.specs.declared.WriteError.{WriteError}
use Rattle.params_bytes.specs.declared.WriteError.TheVariants.{Outside, Short}
use Rattle.std.specs.Prelude.{ℕ, cond, List, ◌∷◌, ltb, length, ℤ}
use Rattle.std.proofs.lemmas.List.Edits.{sets}
use Rattle.index.specs.Index.{gather}
use Rattle.records.specs.Records.{param_count}
use Rattle.limits.specs.Limits.{field_of, at}
use Rattle.params.specs.Editions.{sheet}
use Rattle.params.specs.declared.Edition.TheVariants.{First}
use Rattle.params.specs.Check.{first_broken}
use Rattle.params_bytes.specs.Write.{Writing}
use Rattle.supplier_entry.specs.declared.Form.{Form}
use Rattle.supplier_entry.specs.Bytes.{low_bytes}
use Rattle.supplier_entry.specs.Entries.{content_of}
use Rattle.supplier_params.specs.Forms.{supplier_bytes, form_at}

-- "a kind, then eight bytes, low first"
unfoldable pub entry_bytes : Form → ℤ → List ℕ
entry_bytes form z = form.kind ∷ low_bytes 8 (content_of form z)

unfoldable pub bytes_at : List ℤ → ℕ → List ℕ
bytes_at xs i = entry_bytes (form_at (field_of i)) (at xs i)

unfoldable pub bytes_of : List ℤ → List ℕ
bytes_of xs = gather param_count (bytes_at xs)

-- "testing any sheet it writes by 01's rules" (order 14)
abbrev pub broken_first : List ℤ → Option ℕ
broken_first xs = first_broken (sheet First xs)

abbrev pub export_by : Option ℕ → List ℤ → List ℕ → Writing
export_by (Some i) xs buf = record { answer = Err (Outside i); bytes = buf }
export_by None xs buf = record { answer = Ok supplier_bytes; bytes = sets buf 0 (bytes_of xs) }

unfoldable pub export_of : List ℤ → List ℕ → Writing
export_of xs buf =
    cond (ltb (length buf) supplier_bytes) (record { answer = Err Short; bytes = buf }) (export_by (broken_first xs) xs buf)

-- the number of each answer, and the value that goes with it (13 has none)
abbrev pub export_number : Result ℕ WriteError → ℕ
export_number (Ok n) = 0
export_number (Err Short) = 13
export_number (Err (Outside i)) = 9

abbrev pub export_value : Result ℕ WriteError → ℕ
export_value (Ok n) = n
export_value (Err Short) = 0
export_value (Err (Outside i)) = i
