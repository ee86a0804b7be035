-- What a host gets of the functions over the other supplier's parameters: the promise of the crate below, with the answer as one number.
use Rattle.std.specs.Prelude.{ℕ, min, ◌≡◌, List, ℤ}
use Rattle.answers.specs.Answers.{packed}
use Rattle.params_bytes.specs.Read.{verdict_number, verdict_value}
use Rattle.supplier_params.specs.Import.{import_of}
use Rattle.supplier_params.specs.Export.{export_of, export_number, export_value}
use Rattle.host_parameters.specs.Parameters.{numbers_or}

-- the greatest value that goes with an answer: a length beyond it is told as this
abbrev pub greatest_value : ℕ
greatest_value = 4294967295

-- the lent numbers are written where the bytes are accepted, and stand where they are refused
pub record HostsImport (bytes : List ℕ) (r : ℕ) (lent lent' : List ℤ) : Type 0 where
  pub answer : r ≡ packed (verdict_number (import_of bytes).verdict) (min (verdict_value (import_of bytes).verdict) greatest_value)
  pub numbers : lent' ≡ numbers_or (import_of bytes).verdict (import_of bytes).params.numbers lent

pub record HostsExport (numbers : List ℤ) (r : ℕ) (buf buf' : List ℕ) : Type 0 where
  pub answer : r ≡ packed (export_number (export_of numbers buf).answer) (export_value (export_of numbers buf).answer)
  pub bytes : buf' ≡ (export_of numbers buf).bytes
