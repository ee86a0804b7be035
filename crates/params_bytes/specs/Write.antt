-- Writing the parameters into a lent buffer (01, numbers 8 and 9, in that order); "bytes past a written sheet are unchanged".
use Rattle.std.specs.Prelude.{Option, Some, None, Result, Ok, Err}
use Rattle.params_bytes.specs.declared.WriteError.{WriteError}
use Rattle.params_bytes.specs.declared.WriteError.TheVariants.{Outside, Short}
use Rattle.std.specs.Prelude.{ℕ, cond, List, [], ◌∷◌, ◌++◌, ltb, length, ℤ}
use Rattle.std.proofs.lemmas.List.Edits.{sets}
use Rattle.varint.specs.Groups.{encode}
use Rattle.varint.specs.Codes.{code_of}
use Rattle.params.specs.declared.Edition.{Edition}
use Rattle.params.specs.declared.Edition.TheVariants.{First, Second}
use Rattle.params.specs.declared.Params.{Params}
use Rattle.params.specs.Check.{first_broken}
use Rattle.params_bytes.specs.Read.{front_bytes}

-- "in writing a sheet, buffer under 735 bytes"; edition 2 "needs 737 bytes to write": five for each number, and the front
abbrev pub room_for : Edition → ℕ
room_for First = 735
room_for Second = 737

-- the bytes of a list of numbers
unfoldable pub bytes_of : List ℤ → List ℕ
bytes_of [] = []
bytes_of (x ∷ xs) = encode (code_of x) ++ bytes_of xs

-- the bytes of parameters
abbrev pub form_of : Params → List ℕ
form_of p = front_bytes p.edition ++ bytes_of p.numbers

-- the answer, and the buffer's bytes after it
pub record Writing : Type 0 where
  pub answer : Result ℕ WriteError
  pub bytes : List ℕ

abbrev pub write_by : Option ℕ → Params → List ℕ → Writing
write_by (Some i) p buf = record { answer = Err (Outside i); bytes = buf }
write_by None p buf = record { answer = Ok (length (form_of p)); bytes = sets buf 0 (form_of p) }

unfoldable pub write_of : Params → List ℕ → Writing
write_of p buf =
    cond (ltb (length buf) (room_for p.edition)) (record { answer = Err Short; bytes = buf }) (write_by (first_broken p) p buf)

-- 01's number of each answer, and the value that goes with it (8 has none)
abbrev pub written_number : Result ℕ WriteError → ℕ
written_number (Ok n) = 0
written_number (Err Short) = 8
written_number (Err (Outside i)) = 9

abbrev pub written_value : Result ℕ WriteError → ℕ
written_value (Ok n) = n
written_value (Err Short) = 0
written_value (Err (Outside i)) = i
