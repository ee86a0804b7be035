-- Laws of the export: what is known after i entries, and the ends of `put` and `export`.
-- Assumes nothing.
use Rattle.std.proofs.Common.{Option, Some, None, Result, Ok, Err}
use Rattle.params_bytes.specs.declared.WriteError.{WriteError}
use Rattle.params_bytes.specs.declared.WriteError.TheVariants.{Outside, Short}
use Rattle.index.proofs.Kit.{ℕ, ◌+◌, ◌*◌, ◌<◌, ◌≤◌, ◌≡◌, refl, sym, ap, ◌∙◌, true, arith}
use Rattle.index.specs.Index.{gather}
use Prim.Native.Nat.{zero, suc}
use mathlib.Core.List.{List, ◌∷◌}
use native.Mathlib.Nat.{zero-add}
use borrow.Author.Tests.{lt-ltb, le-ltb}
use lib.IntN.{ℤ}
use lib.ListN.{length, length-append}
use lib.Seq.{sets}
use Rattle.records.specs.Records.{param_count}
use Rattle.index.proofs.Index.{gather_none, gather_more}
use Rattle.index.proofs.Lists.{sets_append}
use Rattle.limits.specs.Limits.{field_of, limit_at, at, in_limits}
use Rattle.params.specs.Editions.{sheet}
use Rattle.params.specs.declared.Edition.TheVariants.{First}
use Rattle.params.specs.Check.{first_broken}
use Rattle.supplier_entry.specs.declared.Form.{Form}
use Rattle.supplier_entry.specs.Bytes.{low_bytes}
use Rattle.supplier_entry.specs.Entries.{content_of}
use Rattle.supplier_entry.specs.Asked.{Writable}
use Rattle.supplier_entry.proofs.ByteLaws.{length_bytes}
use Rattle.supplier_entry.proofs.RoundTrip.{writable}
use Rattle.supplier_params.specs.Forms.{supplier_bytes, form_at}
use Rattle.supplier_params.specs.Export.{entry_bytes, bytes_at, bytes_of, export_of}
use Rattle.supplier_params.proofs.FormLaws.{field_at}

-- what the writer of an entry asks
pub asks : (xs : List ℤ) (i : ℕ) (form : Form) → i < param_count → in_limits xs i ≡ true → form ≡ form_at (field_of i) → Writable form (at xs i)
unfolding in_limits
asks xs i form h t e = rw e (writable (form_at (field_of i)) (limit_at (field_of i)) (at xs i) (field_at i h) t)

pub length_entry : (xs : List ℤ) (i : ℕ) → length (bytes_at xs i) ≡ 9
unfolding bytes_at entry_bytes
length_entry xs i = ap suc (length_bytes 8 (content_of (form_at (field_of i)) (at xs i)))

pub length_entries : (xs : List ℤ) (n : ℕ) → length (gather n (bytes_at xs)) ≡ 9 * n
unfolding gather
length_entries xs zero = refl
length_entries xs (suc n) = omega (arith, length-append (gather n (bytes_at xs)) (bytes_at xs n), length_entries xs n, length_entry xs n)

-- ---- the entries of the first i numbers
pub record Put (xs : List ℤ) (i : ℕ) (buf out : List ℕ) : Type 0 where
  pub most : i ≤ param_count
  pub same : length out ≡ length buf
  pub bytes : out ≡ sets buf 0 (gather i (bytes_at xs))

pub put_none : (xs : List ℤ) (buf : List ℕ) → Put xs 0 buf buf
put_none xs buf = record { most = omega arith; same = refl; bytes = rw (gather_none (bytes_at xs)) }

pub put_more :
    (xs : List ℤ) (i : ℕ) (buf out out' : List ℕ) (form : Form) → i < param_count → Put xs i buf out → form ≡ form_at (field_of i) →
    length out' ≡ length out → out' ≡ sets out (9 * i) (form.kind ∷ low_bytes 8 (content_of form (at xs i))) → Put xs (i + 1) buf out'
unfolding bytes_at entry_bytes
put_more xs i buf out out' form h p e l w =
    record {
      most = omega arith;
      same = l ∙ p.same;
      bytes =
          w
          ∙ ap (λ (f : Form). sets out (9 * i) (f.kind ∷ low_bytes 8 (content_of f (at xs i)))) e
          ∙ ap (λ (o : List ℕ). sets o (9 * i) (bytes_at xs i)) p.bytes
          ∙ ap (λ (k : ℕ). sets (sets buf 0 (gather i (bytes_at xs))) k (bytes_at xs i))
          (sym (length_entries xs i) ∙ sym (zero-add (length (gather i (bytes_at xs)))))
          ∙ sym (sets_append buf 0 (gather i (bytes_at xs)) (bytes_at xs i))
          ∙ ap (λ (s : List ℕ). sets buf 0 s) (sym (gather_more (bytes_at xs) i));
    }

pub put_all : (xs : List ℤ) (i : ℕ) (buf out : List ℕ) → param_count ≤ i → Put xs i buf out → out ≡ sets buf 0 (bytes_of xs)
unfolding bytes_of
put_all xs i buf out h p = let e : i ≡ param_count = omega (arith, p.most) in rw e at p.bytes

-- ---- the ends of `export`
abbrev pub Exported : List ℤ → List ℕ → Result ℕ WriteError → List ℕ → Type 0
Exported xs buf r out = (r ≡ (export_of xs buf).answer) × (out ≡ (export_of xs buf).bytes)

pub export_short : (xs : List ℤ) (buf : List ℕ) → length buf < supplier_bytes → Exported xs buf (Err Short) buf
unfolding export_of
export_short xs buf h = let t = lt-ltb (length buf) supplier_bytes h in (rw t, rw t)

module _ (xs : List ℤ) (buf : List ℕ) (f : Option ℕ) (h : supplier_bytes ≤ length buf) (e : f ≡ first_broken (sheet First xs)) where
  pub export_outside : (i : ℕ) → f ≡ Some i → Exported xs buf (Err (Outside i)) buf
  unfolding export_of
  export_outside i g = let t = le-ltb (length buf) supplier_bytes h in (rw (t, ← e, g), rw (t, ← e, g))

  pub export_done : (out : List ℕ) → f ≡ None → out ≡ sets buf 0 (bytes_of xs) → Exported xs buf (Ok supplier_bytes) out
  unfolding export_of
  export_done out g w = let t = le-ltb (length buf) supplier_bytes h in (rw (t, ← e, g), w ∙ rw (t, ← e, g))
