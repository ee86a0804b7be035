-- From what the reader and the writer of parameters promise to what a host gets: the answer as one number.
-- Assumes nothing.
use Rattle.std.proofs.Common.{Option, Some, None, Result}
use Rattle.params_bytes.specs.declared.ReadError.{ReadError}
use Rattle.params_bytes.specs.declared.WriteError.{WriteError}
use Rattle.index.proofs.Kit.{ℕ, ◌≤◌, ◌≡◌, refl, sym, ap, ◌∙◌, arith}
use mathlib.Core.List.{List}
use lib.ListN.{length}
use lib.IntN.{ℤ}
use Rattle.records.specs.Records.{param_count}
use Rattle.params.specs.declared.Edition.{Edition}
use Rattle.params.specs.declared.Params.{Params}
use Rattle.params.specs.Editions.{edition_number, edition_of}
use Rattle.params_bytes.specs.Read.{Reading, read_of, verdict_number, verdict_value}
use Rattle.params_bytes.specs.Write.{write_of, written_number, written_value}
use Rattle.params_bytes.proofs.PlaceLaws.{read_most, write_most}
use Rattle.params_bytes.proofs.WriteLaws.{Wrote}
use Rattle.answers.specs.Answers.{packed}
use Rattle.host_parameters.specs.Parameters.{numbers_or, edition_or, HostsRead, HostsWrite}

-- ---- reading
module _ (bytes : List ℕ) (q : Reading) (v : Result ℕ ReadError) (e : q ≡ read_of bytes) (t : q.verdict ≡ v) where
  verdict_is : v ≡ (read_of bytes).verdict
  verdict_is = sym t ∙ ap (λ (x : Reading). x.verdict) e

  pub read_fits : verdict_value v ≤ 4294967295
  read_fits = omega (arith, ap verdict_value verdict_is, read_most bytes)

  pub hosts_read :
      (r : ℕ) (lent lent' : List ℤ) (stood left : ℕ) → r ≡ packed (verdict_number v) (verdict_value v) →
      lent' ≡ numbers_or v q.params.numbers lent → left ≡ edition_or v (edition_number q.params.edition) stood →
      HostsRead bytes r lent lent' stood left
  hosts_read r lent lent' stood left p n d =
      record {
        answer = p ∙ ap (λ (x : Result ℕ ReadError). packed (verdict_number x) (verdict_value x)) verdict_is;
        numbers =
            n
            ∙ ap (λ (x : Result ℕ ReadError). numbers_or x q.params.numbers lent) verdict_is
            ∙ ap (λ (x : Reading). numbers_or (read_of bytes).verdict x.params.numbers lent) e;
        edition =
            d
            ∙ ap (λ (x : Result ℕ ReadError). edition_or x (edition_number q.params.edition) stood) verdict_is
            ∙ ap (λ (x : Reading). edition_or (read_of bytes).verdict (edition_number x.params.edition) stood) e;
      }

-- ---- writing
module _ (p : Params) (buf buf' : List ℕ) (w v : Result ℕ WriteError) (e : Wrote p buf w buf') (t : w ≡ v) where
  written_is : v ≡ (write_of p buf).answer
  written_is = sym t ∙ e.0

  pub write_fits : length p.numbers ≡ param_count → written_value v ≤ 4294967295
  write_fits l = omega (arith, ap written_value written_is, write_most p buf l)

  pub hosts_write : (r : ℕ) → r ≡ packed (written_number v) (written_value v) → HostsWrite (Some p.edition) p.numbers r buf buf'
  hosts_write r q = record { answer = q ∙ ap (λ (x : Result ℕ WriteError). packed (written_number x) (written_value x)) written_is; bytes = e.1 }

-- of the edition that a number told, or of none
module _ (n : ℕ) (m : Option Edition) (e : m ≡ edition_of n) (xs : List ℤ) where
  pub write_known : (d : Edition) (r : ℕ) (buf buf' : List ℕ) → m ≡ Some d → HostsWrite (Some d) xs r buf buf' →
      HostsWrite (edition_of n) xs r buf buf'
  write_known d r buf buf' t h = rw (← e, t) h

  pub write_unknown : (r : ℕ) (buf : List ℕ) → m ≡ None → r ≡ packed 2 0 → HostsWrite (edition_of n) xs r buf buf
  write_unknown r buf t q = rw (← e, t) (record { answer = q; bytes = refl })
