-- What a host gets of the parameters as numbers and the number of their edition: the promise of the crate below, with the answer as one
-- number.
use Rattle.std.specs.Prelude.{Option, Some, None, Result, Ok, Err}
use Rattle.params_bytes.specs.declared.ReadError.{ReadError}
use Rattle.params_bytes.specs.declared.ReadError.TheVariants.{Broken, Malformed}
use Rattle.params.specs.declared.Edition.{Edition}
use Rattle.std.specs.Prelude.{ℕ, ◌≡◌, List, ℤ}
use Rattle.params.specs.Editions.{edition_number, sheet}
use Rattle.params_bytes.specs.Read.{read_of, verdict_number, verdict_value}
use Rattle.params_bytes.specs.Write.{write_of, written_number, written_value}
use Rattle.answers.specs.Answers.{packed}

-- reading: the lent numbers and the lent edition are written where the bytes are accepted, and stand where they are refused
abbrev pub numbers_or : Result ℕ ReadError → List ℤ → List ℤ → List ℤ
numbers_or (Ok n) read stood = read
numbers_or (Err (Malformed place)) read stood = stood
numbers_or (Err (Broken i)) read stood = stood

abbrev pub edition_or : Result ℕ ReadError → ℕ → ℕ → ℕ
edition_or (Ok n) read stood = read
edition_or (Err (Malformed place)) read stood = stood
edition_or (Err (Broken i)) read stood = stood

pub record HostsRead (bytes : List ℕ) (r : ℕ) (lent lent' : List ℤ) (told told' : ℕ) : Type 0 where
  pub answer : r ≡ packed (verdict_number (read_of bytes).verdict) (verdict_value (read_of bytes).verdict)
  pub numbers : lent' ≡ numbers_or (read_of bytes).verdict (read_of bytes).params.numbers lent
  pub edition : told' ≡ edition_or (read_of bytes).verdict (edition_number (read_of bytes).params.edition) told

-- writing; a number that is no edition's is out of range (2), and nothing is written
abbrev pub write_code : Option Edition → List ℤ → List ℕ → ℕ
write_code (Some e) xs buf =
    packed (written_number (write_of (sheet e xs) buf).answer) (written_value (write_of (sheet e xs) buf).answer)
write_code None xs buf = packed 2 0

abbrev pub write_bytes : Option Edition → List ℤ → List ℕ → List ℕ
write_bytes (Some e) xs buf = (write_of (sheet e xs) buf).bytes
write_bytes None xs buf = buf

pub record HostsWrite (edition : Option Edition) (xs : List ℤ) (r : ℕ) (buf buf' : List ℕ) : Type 0 where
  pub answer : r ≡ write_code edition xs buf
  pub bytes : buf' ≡ write_bytes edition xs buf
