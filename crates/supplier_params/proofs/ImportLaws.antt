-- Laws of the import: what is known after i entries, and the ends of `number_at`, `entries` and `import`.
-- Assumes nothing.
use Rattle.std.proofs.Common.{Option, Some, None, Result, Err}
use Rattle.params_bytes.specs.declared.ReadError.{ReadError}
use Rattle.params_bytes.specs.declared.ReadError.TheVariants.{Malformed}
use Rattle.index.proofs.Kit.{ℕ, ◌+◌, ◌*◌, ◌<◌, ◌≤◌, ◌≡◌, sym, ap, ◌∙◌, arith, first, gather, first_none, first_more}
use Rattle.index.proofs.Kit.{first_hit, first_done}
use mathlib.Core.List.{List, ◌++◌}
use native.Mathlib.Numerals.{add-one}
use borrow.Author.Tests.{eq-eqb, ne_eqb}
use lib.IntN.{ℤ}
use lib.ListN.{length, get_or, set, take, drop, length-set}
use lib.Seq.{take-suc-set, take_all}
use Rattle.records.specs.Records.{param_count}
use Rattle.index.proofs.Index.{gather_none, gather_more}
use Rattle.limits.specs.Limits.{field_of, limit_at}
use Rattle.params.specs.Editions.{sheet}
use Rattle.params.specs.declared.Params.{Params}
use Rattle.params.specs.declared.Edition.TheVariants.{First}
use Rattle.params.specs.Check.{first_broken}
use Rattle.params_bytes.specs.Read.{told, judged_by}
use Rattle.limits.specs.declared.Limit.{Limit}
use Rattle.supplier_entry.specs.declared.Form.{Form}
use Rattle.supplier_entry.specs.Bytes.{low_first}
use Rattle.supplier_entry.specs.Entries as entry
use Rattle.supplier_entry.proofs.ByteLaws.{take_one}
use Rattle.supplier_params.specs.Forms.{supplier_bytes, form_at}
use Rattle.supplier_params.specs.Import.{entry_at, number_at, is_broken, value, broken_at, value_at, numbers, broken, outcome_by, entries_of}
use Rattle.supplier_params.specs.Import.{Outcome, Gives, judged, import_of}

-- ---- one entry
pub number_is :
    (s : List ℕ) (i u : ℕ) (form : Form) (l : Limit) (r : Option ℤ) → 9 * i < length s → u ≡ low_first (take 8 (drop (9 * i + 1) s)) →
    form ≡ form_at (field_of i) → l ≡ limit_at (field_of i) → r ≡ entry.import_of form l (get_or s (9 * i) 0) u → r ≡ number_at s i
unfolding number_at entry_at
number_is s i u form l r h e f g d = d ∙ rw (e, f, g, take_one 8 s (9 * i) h)

-- ---- the entries up to i, and the numbers that they give
pub record Taken (s : List ℕ) (i : ℕ) (xs : List ℤ) : Type 0 where
  pub most : i ≤ param_count
  pub len : length xs ≡ param_count
  pub whole : first i (broken_at s) ≡ None
  pub front : take i xs ≡ gather i (value_at s)

pub taken_none : (s : List ℕ) (xs : List ℤ) → length xs ≡ param_count → Taken s 0 xs
taken_none s xs l = record { most = omega arith; len = l; whole = first_none (broken_at s); front = sym (gather_none (value_at s)) }

module _ (s : List ℕ) (i : ℕ) (xs : List ℤ) (r : Option ℤ) (t : Taken s i xs) (h : i < param_count) (e : r ≡ number_at s i) where
  pub taken_more : (z : ℤ) → r ≡ Some z → Taken s (i + 1) (set xs i z)
  unfolding broken_at value_at
  taken_more z q =
      let n : number_at s i ≡ Some z = sym e ∙ q in
      record {
        most = omega arith;
        len = length-set xs i z ∙ t.len;
        whole = first_more (broken_at s) i t.whole (ap is_broken n);
        front =
            rw (add-one i, take-suc-set xs i z (omega (arith, t.len)), t.front)
            (ap (λ (l : List ℤ). gather i (value_at s) ++ l) (sym (ap value n)) ∙ sym (gather_more (value_at s) i)
            ∙ ap (λ (k : ℕ). gather k (value_at s)) (add-one i));
      }

  pub taken_broken : r ≡ None → broken i ≡ entries_of s
  unfolding broken_at entries_of
  taken_broken q =
      ap (λ (f : Option ℕ). outcome_by f (gather param_count (value_at s)))
      (sym (first_hit (broken_at s) param_count i h t.whole (ap is_broken (sym e ∙ q))))

pub taken_all : (s : List ℕ) (i : ℕ) (xs : List ℤ) → param_count ≤ i → Taken s i xs → numbers xs ≡ entries_of s
unfolding entries_of
taken_all s i xs h t =
    let e : i ≡ param_count = omega (arith, t.most) in
    let f : take param_count xs ≡ gather param_count (value_at s) = rw e at t.front in
    rw (first_done (broken_at s) param_count i t.most h t.whole) (ap numbers (sym (take_all param_count xs (omega (arith, t.len))) ∙ f))

-- ---- the ends of `import`
module _ (s : List ℕ) where
  pub import_length : (length s ≡ supplier_bytes → ⊥) → Err (Malformed (length s)) ≡ told (import_of s)
  unfolding import_of
  import_length n = rw (ne_eqb (length s) supplier_bytes n)

  module _ (xs : List ℤ) (l : length s ≡ supplier_bytes) where
    taken : judged (entries_of s) ≡ import_of s
    unfolding import_of
    taken = rw (eq-eqb (length s) supplier_bytes l)

    pub import_broken : (e : ReadError) → Gives (Err e) xs (entries_of s) → Err e ≡ told (import_of s)
    import_broken e g = rw g.1.0 (ap (λ (o : Outcome). told (judged o)) g.1.1 ∙ ap told taken)

    pub import_judged :
        (r : Result (Params × ℕ) ReadError) → numbers xs ≡ entries_of s →
        r ≡ told (judged_by (first_broken (sheet First xs)) (sheet First xs) supplier_bytes) → r ≡ told (import_of s)
    import_judged r g q = q ∙ ap (λ (o : Outcome). told (judged o)) g ∙ ap told taken
