-- From what the import and the export promise to what a host gets: the answer as one number.
-- Assumes nothing.
use Rattle.std.proofs.Common.{Option, Some, None, Result}
use Rattle.params_bytes.specs.declared.ReadError.{ReadError}
use Rattle.params_bytes.specs.declared.WriteError.{WriteError}
use Rattle.index.proofs.Kit.{ℕ, ◌≤◌, ◌≡◌, refl, sym, ap, ◌∙◌, arith, by_test}
use Prim.Native.Nat.{min}
use mathlib.Core.List.{List}
use lib.Dec.{ltb}
use lib.ListN.{length}
use lib.IntN.{ℤ}
use Rattle.answers.specs.Answers.{packed}
use Rattle.params.specs.Editions.{sheet}
use Rattle.params.specs.declared.Edition.TheVariants.{First}
use Rattle.params.proofs.CheckLaws.{broken_most}
use Rattle.params_bytes.specs.Read.{Reading, verdict_number, verdict_value}
use Rattle.supplier_params.specs.Forms.{supplier_bytes}
use Rattle.supplier_params.specs.Import.{import_of}
use Rattle.supplier_params.specs.Export.{broken_first, export_by, export_of, export_number, export_value}
use Rattle.supplier_params.proofs.ExportLaws.{Exported}
use Rattle.host_parameters.specs.Parameters.{numbers_or}
use Rattle.host_parameters.specs.Supplier.{greatest_value, HostsImport, HostsExport}

-- ---- importing
module _ (bytes : List ℕ) (q : Reading) (v : Result ℕ ReadError) (e : q ≡ import_of bytes) (t : q.verdict ≡ v) where
  verdict_is : v ≡ (import_of bytes).verdict
  verdict_is = sym t ∙ ap (λ (x : Reading). x.verdict) e

  pub hosts_import :
      (r u : ℕ) (lent lent' : List ℤ) → u ≡ min (verdict_value v) greatest_value → r ≡ packed (verdict_number v) u →
      lent' ≡ numbers_or v q.params.numbers lent → HostsImport bytes r lent lent'
  hosts_import r u lent lent' w p n =
      record {
        answer =
            p
            ∙ ap (packed (verdict_number v)) w
            ∙ ap (λ (x : Result ℕ ReadError). packed (verdict_number x) (min (verdict_value x) greatest_value)) verdict_is;
        numbers =
            n
            ∙ ap (λ (x : Result ℕ ReadError). numbers_or x q.params.numbers lent) verdict_is
            ∙ ap (λ (x : Reading). numbers_or (import_of bytes).verdict x.params.numbers lent) e;
      }

-- ---- exporting
export_most : (numbers : List ℤ) (buf : List ℕ) → export_value (export_of numbers buf).answer ≤ greatest_value
unfolding export_of
export_most numbers buf =
    by_test (export_value (export_of numbers buf).answer ≤ greatest_value) (ltb (length buf) supplier_bytes)
    (λ t. rw t (omega arith))
    (λ t. rw t (go (broken_first numbers) refl))
  where
    go : (f : Option ℕ) → broken_first numbers ≡ f → export_value (export_by f numbers buf).answer ≤ greatest_value
    go (Some i) e = omega (arith, broken_most (sheet First numbers) i e)
    go None e = omega arith

module _ (numbers : List ℤ) (buf buf' : List ℕ) (w v : Result ℕ WriteError) (e : Exported numbers buf w buf') (t : w ≡ v) where
  exported_is : v ≡ (export_of numbers buf).answer
  exported_is = sym t ∙ e.0

  pub export_fits : export_value v ≤ greatest_value
  export_fits = omega (arith, ap export_value exported_is, export_most numbers buf)

  pub hosts_export : (r : ℕ) → r ≡ packed (export_number v) (export_value v) → HostsExport numbers r buf buf'
  hosts_export r p = record { answer = p ∙ ap (λ (x : Result ℕ WriteError). packed (export_number x) (export_value x)) exported_is; bytes = e.1 }
