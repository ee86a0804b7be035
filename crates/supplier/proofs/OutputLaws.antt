-- Laws of the answer: what is stored in each case is what the definition says.
-- Assumes nothing.
use Rattle.std.proofs.Common.{Option, Some, None, Result, Ok, Err}
use Rattle.params_bytes.specs.declared.ReadError.{ReadError}
use Rattle.params_bytes.specs.declared.ReadError.TheVariants.{Malformed}
use Rattle.params_bytes.specs.declared.WriteError.{WriteError}
use Rattle.params_bytes.specs.declared.WriteError.TheVariants.{Outside, Short}
use Rattle.index.proofs.Kit.{ℕ, ◌+◌, ◌-◌, ◌<◌, ◌≤◌, ◌≡◌, refl, sym, ap, ◌∙◌, arith, true, false, by_order}
use mathlib.Core.List.{List, [], ◌∷◌, ◌++◌, append-nil}
use native.Mathlib.Nat.{zero-add}
use mathlib.Core.Bool.{◌&&◌}
use borrow.Author.Tests.{eq-eqb, ne_eqb, eqb-true, lt-ltb, le-ltb, ltb-true}
use lib.Dec.{eqb, ltb}
use lib.IntN.{ℤ}
use lib.ListN.{length, take, drop, length-append, length-drop}
use lib.Seq.{sets, take-append-le, sets-eq, take_at, length-take-le}
use Rattle.index.proofs.Index.{both}
use Rattle.records.specs.Records.{param_count}
use Rattle.text.specs.Text.{Stored}
use Rattle.text.proofs.TextLaws.{stored_then}
use Rattle.param_text.specs.Lines.{head_text}
use Rattle.param_text.proofs.Enough.{enough}
use Rattle.params.specs.Check.{first_broken}
use Rattle.params.specs.declared.Edition.{Edition}
use Rattle.params.specs.declared.Edition.TheVariants.{First, Second}
use Rattle.params.specs.declared.Params.{Params}
use Rattle.params_bytes.specs.Read.{Reading, read_of, refusal}
use Rattle.params_bytes.specs.Write.{room_for, form_of, write_by, write_of}
use Rattle.params_bytes.proofs.RoundTrip.{form_most}
use Rattle.supplier_params.specs.Forms.{supplier_bytes}
use Rattle.supplier_params.specs.Import.{import_of}
use Rattle.supplier_params.specs.Export.{broken_first, bytes_of, export_by, export_of}
use Rattle.supplier_params.proofs.ExportLaws.{length_entries}
use Rattle.supplier.specs.Output.{done_text, numbers_output, import_text, entries_text, entries_output, export_output, export_text, unless}
use Rattle.supplier.specs.Output.{allowed, import_bytes, export_bytes, output_of, Room}

-- ---- a reading, by its verdict
module _ (q r : Reading) (v : Result ℕ ReadError) (is : q ≡ r) (told : q.verdict ≡ v) where
  by_verdict : (F : Result ℕ ReadError → Params → List ℕ) → F v q.params ≡ F r.verdict r.params
  by_verdict F = ap (λ (w : Result ℕ ReadError). F w q.params) (sym told) ∙ ap (λ (x : Reading). F x.verdict x.params) is

  module _ (b₀ b₁ : List ℕ) (n : ℕ) where
    pub import_as : Stored b₀ 0 (numbers_output v q.params.numbers) n b₁ → Stored b₀ 0 (import_text r) n b₁
    unfolding import_text
    import_as s = rw (sym (by_verdict (λ w p. numbers_output w p.numbers))) s

    pub export_as : Stored b₀ 0 (export_output v q.params.numbers) n b₁ → Stored b₀ 0 (export_text r) n b₁
    unfolding export_text
    export_as s = rw (sym (by_verdict (λ w p. export_output w p.numbers))) s

    pub import_bytes_as : Stored b₀ 0 (allowed v (first_broken q.params) (form_of q.params)) n b₁ → Stored b₀ 0 (import_bytes r) n b₁
    unfolding import_bytes
    import_bytes_as s = rw (sym (by_verdict (λ w p. allowed w (first_broken p) (form_of p)))) s

    pub export_bytes_as :
        Stored b₀ 0 (allowed v (broken_first q.params.numbers) (bytes_of q.params.numbers)) n b₁ → Stored b₀ 0 (export_bytes r) n b₁
    unfolding export_bytes
    export_bytes_as s = rw (sym (by_verdict (λ w p. allowed w (broken_first p.numbers) (bytes_of p.numbers)))) s

pub nothing_stored : (b : List ℕ) → Stored b 0 [] 0 b
nothing_stored b = (omega arith, refl)

-- ---- what a writer of n bytes answers and leaves, by what the check of the parameters found
abbrev pub answer_by : Option ℕ → ℕ → Result ℕ WriteError
answer_by (Some i) n = Err (Outside i)
answer_by None n = Ok n

abbrev pub bytes_by : Option ℕ → List ℕ → List ℕ → List ℕ
bytes_by (Some i) bytes buf = buf
bytes_by None bytes buf = sets buf 0 bytes

abbrev pub length_of : Result ℕ WriteError → ℕ
length_of (Ok n) = n
length_of (Err e) = 0

pub written_stored :
    (f : Option ℕ) (bytes buf out : List ℕ) (r v : Result ℕ WriteError) → r ≡ answer_by f (length bytes) → out ≡ bytes_by f bytes buf → r ≡ v →
    Stored buf 0 (unless f bytes) (length_of v) out
written_stored (Some i) bytes buf out r v e o t = (ap length_of (sym t ∙ e), o)
written_stored None bytes buf out r v e o t = (ap length_of (sym t ∙ e) ∙ sym (zero-add (length bytes)), o)

-- no more than the bytes are
pub written_length : (f : Option ℕ) (n most : ℕ) (r v : Result ℕ WriteError) → (f ≡ None → n ≤ most) → r ≡ answer_by f n → r ≡ v → length_of v ≤ most
written_length (Some i) n most r v h e t = omega (arith, ap length_of (sym t ∙ e))
written_length None n most r v h e t = omega (arith, ap length_of (sym t ∙ e), h refl)

module _ (f : Option ℕ) (n : ℕ) (r : Result ℕ WriteError) (e : r ≡ answer_by f n) where
  pub is_done : (m : ℕ) → r ≡ Ok m → (f ≡ None) × (m ≡ n)
  is_done m t = go f (sym e ∙ t)
    where
      go : (g : Option ℕ) → answer_by g n ≡ Ok m → (g ≡ None) × (m ≡ n)
      go (Some i) q = let z : ◌≡◌ {A = ℕ} 0 1 = cc in absurd (omega arith)
      go None q = let s : n ≡ m = cc in (refl, sym s)

  pub is_outside : (i : ℕ) → r ≡ Err (Outside i) → f ≡ Some i
  is_outside i t = go f (sym e ∙ t)
    where
      go : (g : Option ℕ) → answer_by g n ≡ Err (Outside i) → g ≡ Some i
      go (Some j) q = let s : j ≡ i = cc in ap Some s
      go None q = let z : ◌≡◌ {A = ℕ} 0 1 = cc in absurd (omega arith)

  pub not_short : {A : Type 0} → r ≡ Err Short → A
  not_short {A} t = go f (sym e ∙ t)
    where
      go : (g : Option ℕ) → answer_by g n ≡ Err Short → A
      go (Some j) q = let z : ◌≡◌ {A = ℕ} 0 1 = cc in absurd (omega arith)
      go None q = let z : ◌≡◌ {A = ℕ} 0 1 = cc in absurd (omega arith)

-- ---- our own writer
room_most : (e : Edition) → room_for e ≤ 4096
room_most First = omega arith
room_most Second = omega arith

module _ (p : Params) (buf : List ℕ) where
  own_by :
      room_for p.edition ≤ length buf →
      ((write_of p buf).answer ≡ answer_by (first_broken p) (length (form_of p)))
      × ((write_of p buf).bytes ≡ bytes_by (first_broken p) (form_of p) buf)
  unfolding write_of
  own_by h = rw (le-ltb (length buf) (room_for p.edition) h) (go (first_broken p))
    where
      go : (f : Option ℕ) → ((write_by f p buf).answer ≡ answer_by f (length (form_of p))) × ((write_by f p buf).bytes ≡ bytes_by f (form_of p) buf)
      go (Some i) = (refl, refl)
      go None = (refl, refl)

  pub own_stored :
      (r v : Result ℕ WriteError) (out : List ℕ) → r ≡ v → 4096 ≤ length buf → length p.numbers ≡ param_count →
      (r ≡ (write_of p buf).answer) × (out ≡ (write_of p buf).bytes) →
      Stored buf 0 (unless (first_broken p) (form_of p)) (length_of v) out × (length_of v ≤ 4096)
  own_stored r v out t h l w =
      let m = room_most p.edition in
      let b = own_by (omega arith) in (
        written_stored (first_broken p) (form_of p) buf out r v (w.0 ∙ b.0) (w.1 ∙ b.1) t,
        written_length (first_broken p) (length (form_of p)) 4096 r v (λ e. omega (arith, form_most p l e, m)) (w.0 ∙ b.0) t,
      )

-- ---- the supplier's
module _ (xs : List ℤ) (buf : List ℕ) where
  pub length_theirs : length (bytes_of xs) ≡ supplier_bytes
  unfolding bytes_of
  length_theirs = length_entries xs param_count

  theirs_by :
      supplier_bytes ≤ length buf →
      ((export_of xs buf).answer ≡ answer_by (broken_first xs) (length (bytes_of xs)))
      × ((export_of xs buf).bytes ≡ bytes_by (broken_first xs) (bytes_of xs) buf)
  unfolding export_of
  theirs_by h = rw (le-ltb (length buf) supplier_bytes h, length_theirs) (go (broken_first xs))
    where
      go : (f : Option ℕ) → ((export_by f xs buf).answer ≡ answer_by f supplier_bytes) × ((export_by f xs buf).bytes ≡ bytes_by f (bytes_of xs) buf)
      go (Some i) = (refl, refl)
      go None = (refl, refl)

  pub theirs_stored :
      (r v : Result ℕ WriteError) (out : List ℕ) → r ≡ v → 4096 ≤ length buf → (r ≡ (export_of xs buf).answer) × (out ≡ (export_of xs buf).bytes) →
      Stored buf 0 (unless (broken_first xs) (bytes_of xs)) (length_of v) out × (length_of v ≤ 4096)
  theirs_stored r v out t h w =
      let b = theirs_by (omega arith) in (
        written_stored (broken_first xs) (bytes_of xs) buf out r v (w.0 ∙ b.0) (w.1 ∙ b.1) t,
        written_length (broken_first xs) (length (bytes_of xs)) 4096 r v (λ e. omega (arith, length_theirs)) (w.0 ∙ b.0) t,
      )

-- ---- the ends of `put_exported`: what was exported to the page
module _
    (xs : List ℤ) (page : List ℕ) (r : Result ℕ WriteError) (out : List ℕ) (room : supplier_bytes ≤ length page)
    (w : (r ≡ (export_of xs page).answer) × (out ≡ (export_of xs page).bytes))
  where
    by : (r ≡ answer_by (broken_first xs) (length (bytes_of xs))) × (out ≡ bytes_by (broken_first xs) (bytes_of xs) page)
    by = let b = theirs_by xs page room in (w.0 ∙ b.0, w.1 ∙ b.1)

    module _ (n : ℕ) (t : r ≡ Ok n) where
      pub done_length : n ≡ supplier_bytes
      done_length = (is_done (broken_first xs) (length (bytes_of xs)) r by.0 n t).1 ∙ length_theirs xs page

      pub done_page : take n out ≡ bytes_of xs
      done_page =
          let d = is_done (broken_first xs) (length (bytes_of xs)) r by.0 n t in
          let l = length_theirs xs page in
          rw (d.1, by.1, d.0)
          (ap (take (length (bytes_of xs))) (sets-eq (bytes_of xs) page 0 (omega arith)) ∙ take_at (bytes_of xs) _ (length (bytes_of xs)) refl)

      pub exported_done :
          (b₀ b₁ b₂ : List ℕ) (p₁ p₂ : ℕ) → Stored b₀ 0 done_text p₁ b₁ → Stored b₁ p₁ (entries_text (take n out)) p₂ b₂ →
          Stored b₀ 0 (entries_output (broken_first xs) xs) p₂ b₂
      exported_done b₀ b₁ b₂ p₁ p₂ s u =
          rw (is_done (broken_first xs) (length (bytes_of xs)) r by.0 n t).0
          (stored_then b₀ 0 p₁ done_text b₁ p₂ (entries_text (bytes_of xs)) b₂ s (rw done_page at u))

    pub exported_outside : (i : ℕ) (b₀ b₁ : List ℕ) (p : ℕ) → r ≡ Err (Outside i) → Stored b₀ 0 (head_text 9 i) p b₁ →
        Stored b₀ 0 (entries_output (broken_first xs) xs) p b₁
    exported_outside i b₀ b₁ p t s = rw (is_outside (broken_first xs) (length (bytes_of xs)) r by.0 i t) s

    pub exported_short : {A : Type 0} → r ≡ Err Short → A
    exported_short t = not_short (broken_first xs) (length (bytes_of xs)) r by.0 t

-- ---- by the mode
module _ (mode : ℕ) (s : List ℕ) where
  pub mode_import : mode ≡ 105 → import_text (import_of s) ≡ output_of mode s
  unfolding output_of
  mode_import e = rw e

  pub mode_export : mode ≡ 101 → export_text (read_of s) ≡ output_of mode s
  unfolding output_of
  mode_export e = rw e

  pub mode_import_bytes : mode ≡ 73 → import_bytes (import_of s) ≡ output_of mode s
  unfolding output_of
  mode_import_bytes e = rw e

  pub mode_export_bytes : mode ≡ 69 → export_bytes (read_of s) ≡ output_of mode s
  unfolding output_of
  mode_export_bytes e = rw e

  pub mode_none : (mode ≡ 105 → ⊥) → (mode ≡ 101 → ⊥) → (mode ≡ 73 → ⊥) → (mode ≡ 69 → ⊥) → head_text 2 0 ≡ output_of mode s
  unfolding output_of
  mode_none a b c d = rw (ne_eqb mode 105 a, ne_eqb mode 101 b, ne_eqb mode 73 c, ne_eqb mode 69 d)

-- ---- bytes that follow the first 4,096
front_read : (s more : List ℕ) → 4096 ≤ length s → read_of (s ++ more) ≡ read_of s
front_read s more h = sym (enough (s ++ more)) ∙ ap read_of (take-append-le 4096 s more h) ∙ enough s

long_import : (s : List ℕ) → 4096 ≤ length s → import_of s ≡ refusal (Err (Malformed (length s)))
unfolding import_of
long_import s h = rw (ne_eqb (length s) supplier_bytes (λ e. omega arith))

pub long_length : (s more : List ℕ) → 4096 ≤ length s → head_text 10 (length s + length more) ≡ output_of 105 (s ++ more)
unfolding output_of import_text
long_length s more h =
    let l = length-append s more in
    rw (long_import (s ++ more) (omega arith), l)

-- in every other mode they do not matter
pub long_same : (mode : ℕ) (s more : List ℕ) → (mode ≡ 105 → ⊥) → 4096 ≤ length s → output_of mode (s ++ more) ≡ output_of mode s
unfolding output_of import_bytes
long_same mode s more n h =
    let l = length-append s more in
    rw (ne_eqb mode 105 n, front_read s more h, long_import (s ++ more) (omega arith), long_import s h)

none_left : (more : List ℕ) → length more ≡ 0 → more ≡ []
none_left [] e = refl
none_left (x ∷ more) e = absurd (omega arith)

pub short_same : (mode : ℕ) (s more : List ℕ) → length more ≡ 0 → output_of mode (s ++ more) ≡ output_of mode s
short_same mode s more e = ap (output_of mode) (ap (λ (m : List ℕ). s ++ m) (none_left more e) ∙ append-nil s)

-- ---- the ends of `answer_all`
module _ (mode : ℕ) (s more : List ℕ) (rest : ℕ) where
  pub all_long : (eqb mode 105 && ltb 0 rest) ≡ true → (0 < rest → 4096 ≤ length s) → length more ≡ rest → head_text 10 (length s + rest)
      ≡ output_of mode (s ++ more)
  all_long t h l =
      let b = both (eqb mode 105) (ltb 0 rest) t in
      rw (eqb-true mode 105 b.0, ← l) (long_length s more (h (ltb-true 0 rest b.1)))

  pub all_same : (eqb mode 105 && ltb 0 rest) ≡ false → (0 < rest → 4096 ≤ length s) → length more ≡ rest → output_of mode (s ++ more)
      ≡ output_of mode s
  all_same t h l =
      by_order (output_of mode (s ++ more) ≡ output_of mode s) 0 rest
      (λ p. long_same mode s more (λ e. not_both (sym (rw (eq-eqb mode 105 e, lt-ltb 0 rest p) at t))) (h p))
      (λ g. short_same mode s more (omega arith))
    where
      not_both : false ≡ true → ⊥
      not_both e = let z : ◌≡◌ {A = ℕ} 0 1 = cc in omega arith

-- ---- what `reply` lends: the input after its mode
pub room_after :
    (buf page input : List ℕ) (rest : ℕ) → 4096 ≤ length buf → supplier_bytes ≤ length page → length input ≤ 65536 →
    (0 < rest → 65536 ≤ length input) → rest ≤ 18014398509481984 → Room buf page (take (length input - 1) (drop 1 input)) rest
room_after buf page input rest o p l f r =
    let d = length-drop 1 input in
    let n = length-take-le (length input - 1) (drop 1 input) (omega arith) in
    record { out = o; lent = p; front = λ h. (let q = f h in omega arith); all = omega arith }
