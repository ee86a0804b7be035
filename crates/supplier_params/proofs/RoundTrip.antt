-- What was exported is imported again, and what was imported is exported again: entry by entry, in blocks of nine bytes.
-- Assumes nothing.
use Rattle.std.proofs.Common.{Option, Some, None, Ok, Err}
use Rattle.params_bytes.specs.declared.ReadError.TheVariants.{Malformed}
use Rattle.params_bytes.specs.declared.WriteError.TheVariants.{Short}
use Rattle.index.proofs.Kit.{ℕ, ◌+◌, ◌*◌, ◌<◌, ◌≤◌, ◌≡◌, refl, sym, ap, ◌∙◌, Bool, true, false, arith, by_order}
use Rattle.index.specs.Index.{first, gather}
use Prim.Native.Nat.{zero, suc, ◌^◌}
use mathlib.Core.Path.{ap₂}
use mathlib.Core.List.{List, [], ◌∷◌, ◌++◌}
use native.Mathlib.Nat.{zero-add}
use borrow.Author.Tests.{eq-eqb, eqb-true, le-ltb, ltb-false}
use lib.Dec.{ltb, eqb}
use lib.IntN.{ℤ, pos}
use lib.ListN.{length, get_or, take, drop, length-append, length-take, length-drop, get_or-eq_default}
use lib.Seq.{sets, sets-eq, take_all, take-suc, take-add, take_at, drop_at, take-append-le, drop-append-le, length-take-le, get_or-take}
use lib.Seq.{get_or-drop, get_or_at}
use Rattle.records.specs.Records.{param_count}
use Rattle.index.proofs.Index.{first_passed}
use Rattle.limits.specs.Limits.{field_of, limit_at, at, in_limits}
use Rattle.params.specs.Editions.{sheet}
use Rattle.params.specs.declared.Edition.TheVariants.{First}
use Rattle.params.specs.Check.{first_broken}
use Rattle.params_bytes.specs.Read.{judged_by}
use Rattle.params.proofs.CheckLaws.{accepted_in_lem}
use Rattle.supplier_entry.specs.Bytes.{low_first, low_bytes}
use Rattle.supplier_entry.specs.Entries.{content_of}
use Rattle.supplier_entry.specs.Entries as entry
use Rattle.supplier_entry.proofs.ByteLaws.{first_bytes, bytes_first, first_lt}
use Rattle.supplier_entry.proofs.RoundTrip.{imports, content_lt}
use Rattle.supplier_entry.proofs.RoundTrip as one
use Rattle.supplier_params.specs.Forms.{supplier_bytes, form_at}
use Rattle.supplier_params.specs.Import.{entry_at, entry_number, number_at, is_broken, value, broken_at, value_at, numbers, outcome_by}
use Rattle.supplier_params.specs.Import.{entries_of, judged, import_of}
use Rattle.supplier_params.specs.Export.{entry_bytes, bytes_at, bytes_of, export_by, export_of}
use Rattle.supplier_params.specs.RoundTrip.{ImportsBack, ExportsBack}
use Rattle.supplier_params.proofs.FormLaws.{field_at}
use Rattle.supplier_params.proofs.ExportLaws.{length_entry, length_entries}

-- ---- blocks of nine bytes: block i of those gathered, and all blocks of a list gathered again
block_at : (xs : List ℤ) (n i : ℕ) → i < n → entry_at (gather n (bytes_at xs)) i ≡ bytes_at xs i
unfolding entry_at gather
block_at xs zero i h = absurd (omega arith)
block_at xs (suc n) i h =
    let a = gather n (bytes_at xs) in
    let b = bytes_at xs n in
    by_order (take 9 (drop (9 * i) (a ++ b)) ≡ bytes_at xs i) i n
    (λ l.
    rw (drop-append-le (9 * i) a b (omega (arith, length_entries xs n)))
    (take-append-le 9 (drop (9 * i) a) b (omega (arith, length-drop (9 * i) a, length_entries xs n)) ∙ block_at xs n i l))
    (λ g.
    let e : i ≡ n = omega arith in
    rw e
    (ap (take 9) (drop_at a b (9 * n) (length_entries xs n)) ∙ take_all 9 b (omega (arith, length_entry xs n))))

blocks : (s : List ℕ) (n : ℕ) → gather n (entry_at s) ≡ take (9 * n) s
unfolding gather entry_at
blocks s zero = refl
blocks s (suc n) =
    let e : 9 * suc n ≡ 9 * n + 9 = omega arith in
    rw (blocks s n, e) (sym (take-add (9 * n) 9 s))

-- ---- what was exported, imported
module _ (xs : List ℤ) (ok : first_broken (sheet First xs) ≡ None) (len : length xs ≡ param_count) where
  number_back : (i : ℕ) → i < param_count → number_at (bytes_of xs) i ≡ Some (at xs i)
  unfolding number_at bytes_of bytes_at entry_bytes in_limits
  number_back i h =
      let form = form_at (field_of i) in
      let l = limit_at (field_of i) in
      let row = field_at i h in
      let t = accepted_in_lem (sheet First xs) ok i h in
      ap (entry_number form l) (block_at xs param_count i h)
      ∙ ap (entry.import_of form l form.kind) (first_bytes 8 (content_of form (at xs i)) (content_lt form l (at xs i) row t))
      ∙ imports form l (at xs i) row t

  none_broken : (n : ℕ) → n ≤ param_count → first n (broken_at (bytes_of xs)) ≡ None
  unfolding first broken_at
  none_broken zero h = refl
  none_broken (suc n) h = rw (none_broken n (omega arith), number_back n (omega arith))

  values_back : (n : ℕ) → n ≤ param_count → gather n (value_at (bytes_of xs)) ≡ take n xs
  unfolding gather value_at
  values_back zero h = refl
  values_back (suc n) h = rw (values_back n (omega arith), number_back n (omega arith)) (sym (take-suc xs n (pos 0) (omega (arith, len))))

  entries_back : entries_of (bytes_of xs) ≡ numbers xs
  unfolding entries_of
  entries_back =
      rw (none_broken param_count (omega arith), values_back param_count (omega arith), take_all param_count xs (omega (arith, len)))

  length_back : length (bytes_of xs) ≡ supplier_bytes
  unfolding bytes_of
  length_back = length_entries xs param_count

  import_back : import_of (bytes_of xs) ≡ record { verdict = Ok supplier_bytes; params = sheet First xs }
  unfolding import_of
  import_back =
      rw (eq-eqb (length (bytes_of xs)) supplier_bytes length_back, entries_back)
      (ap (λ (f : Option ℕ). judged_by f (sheet First xs) supplier_bytes) ok)

-- what a buffer begins with after a run of stores at its start
front_set : (buf bytes : List ℕ) → length bytes ≤ length buf → take (length bytes) (sets buf 0 bytes) ≡ bytes
front_set buf bytes h = rw (sets-eq bytes buf 0 (omega arith)) (take_at bytes (drop (0 + length bytes) buf) (length bytes) refl)

export_is_done :
    (xs : List ℤ) (buf : List ℕ) (n : ℕ) → (export_of xs buf).answer ≡ Ok n →
    (first_broken (sheet First xs) ≡ None) × (n ≡ supplier_bytes) × ((export_of xs buf).bytes ≡ sets buf 0 (bytes_of xs))
    × (supplier_bytes ≤ length buf)
unfolding export_of
export_is_done xs buf n e = room (ltb (length buf) supplier_bytes) refl
  where
    Goal : Type 0
    Goal = (first_broken (sheet First xs) ≡ None) × (n ≡ supplier_bytes) × ((export_of xs buf).bytes ≡ sets buf 0 (bytes_of xs))
        × (supplier_bytes ≤ length buf)

    found : ltb (length buf) supplier_bytes ≡ false → (f : Option ℕ) → first_broken (sheet First xs) ≡ f → (export_by f xs buf).answer ≡ Ok n →
        Goal
    found t (Some i) q d = let z : ◌≡◌ {A = ℕ} 0 1 = cc in absurd (omega arith)
    found t None q d =
        let s : supplier_bytes ≡ n = cc in
        (q, sym s, rw (t, q), ltb-false (length buf) supplier_bytes t)

    room : (b : Bool) → ltb (length buf) supplier_bytes ≡ b → Goal
    room true t = let d : Err Short ≡ Ok n = rw t at e in let z : ◌≡◌ {A = ℕ} 0 1 = cc in absurd (omega arith)
    room false t = found t (first_broken (sheet First xs)) refl (rw t at e)

pub imports_back : ImportsBack
imports_back xs buf n len e =
    let d = export_is_done xs buf n e in
    let l = length_back xs d.0 len in
    rw (d.1, d.2)
    (ap import_of (ap (λ (k : ℕ). take k (sets buf 0 (bytes_of xs))) (sym l) ∙ front_set buf (bytes_of xs) (omega (arith, d.3)))
    ∙ import_back xs d.0 len)

-- ---- what was imported, exported
-- lists gathered of functions that agree below n
gather_below : {A : Type 0} (n : ℕ) (f g : ℕ → List A) → ((i : ℕ) → i < n → f i ≡ g i) → gather n f ≡ gather n g
unfolding gather
gather_below zero f g h = refl
gather_below (suc n) f g h = rw (gather_below n f g (λ i l. h i (omega arith)), h n (omega arith))

-- lists of one element each
module _ (f : ℕ → List ℤ) (g : ℕ → ℤ) where
  singles : (n : ℕ) → ((i : ℕ) → i < n → f i ≡ g i ∷ []) → length (gather n f) ≡ n
  unfolding gather
  singles zero h = refl
  singles (suc n) h = length-append (gather n f) (f n) ∙ rw (singles n (λ i l. h i (omega arith)), h n (omega arith)) (omega arith)

  single_at : (n i : ℕ) → ((i : ℕ) → i < n → f i ≡ g i ∷ []) → i < n → at (gather n f) i ≡ g i
  unfolding gather
  single_at zero i h l = absurd (omega arith)
  single_at (suc n) i h l =
      let s = singles n (λ i l. h i (omega arith)) in
      by_order (at (gather n f ++ f n) i ≡ g i) i n
      (λ b. front b ∙ single_at n i (λ i l. h i (omega arith)) b)
      (λ b. let e : i ≡ n = omega arith in rw (e, h n (omega arith)) (get_or_at (gather n f) (g n) [] (pos 0) n s))
    where
      front : i < n → at (gather n f ++ f n) i ≡ at (gather n f) i
      front b =
          sym (get_or-take n (gather n f ++ f n) i (pos 0) b)
          ∙ ap (λ (t : List ℤ). at t i) (take_at (gather n f) (f n) n (singles n (λ i l. h i (omega arith))))

-- the number of an entry that is not broken
abbrev found : Option ℤ → ℤ
found (Some z) = z
found None = pos 0

whole_number : (x : Option ℤ) → is_broken x ≡ false → x ≡ Some (found x)
whole_number (Some z) e = refl
whole_number None e = let z : ◌≡◌ {A = ℕ} 0 1 = cc in absurd (omega arith)

module _ (s : List ℕ) (bytes : (k : ℕ) → get_or s k 0 < 256) (len : length s ≡ supplier_bytes) (ok : first param_count (broken_at s) ≡ None)
  where
    number_found : (i : ℕ) → i < param_count → number_at s i ≡ Some (found (number_at s i))
    unfolding broken_at
    number_found i h = whole_number (number_at s i) (first_passed (broken_at s) param_count ok i h)

    value_found : (i : ℕ) → i < param_count → value_at s i ≡ found (number_at s i) ∷ []
    unfolding value_at
    value_found i h = ap value (number_found i h)

    at_found : (i : ℕ) → i < param_count → at (gather param_count (value_at s)) i ≡ found (number_at s i)
    at_found i h = single_at (value_at s) (λ k. found (number_at s k)) param_count i value_found h

    entry_bytes_lem : (i : ℕ) → i < param_count → (k : ℕ) → get_or (entry_at s i) k 0 < 256
    unfolding entry_at
    entry_bytes_lem i h k =
        by_order (get_or (take 9 (drop (9 * i) s)) k 0 < 256) k 9
        (λ l. rw (get_or-take 9 (drop (9 * i) s) k 0 l, get_or-drop (9 * i) s k 0) (bytes (9 * i + k)))
        (λ g.
        let short : length (take 9 (drop (9 * i) s)) ≤ k = omega (arith, length-take 9 (drop (9 * i) s)) in
        rw (get_or-eq_default (take 9 (drop (9 * i) s)) 0 short) (omega arith))

    entry_length : (i : ℕ) → i < param_count → length (entry_at s i) ≡ 9
    unfolding entry_at
    entry_length i h = length-take-le 9 (drop (9 * i) s) (omega (arith, length-drop (9 * i) s, len))

    -- an entry is what is written of its number
    entry_again : (i : ℕ) → i < param_count → (e : List ℕ) → entry_at s i ≡ e → bytes_at (gather param_count (value_at s)) i ≡ e
    unfolding bytes_at entry_bytes number_at
    entry_again i h [] q =
        let l = sym (entry_length i h) ∙ ap length q in
        absurd (omega arith)
    entry_again i h (kind ∷ rest) q =
        let form = form_at (field_of i) in
        let z = found (number_at s i) in
        let small : (k : ℕ) → get_or rest k 0 < 256 = λ k. rw q at (entry_bytes_lem i h (suc k)) in
        let eight : length rest ≡ 8 = (let l = sym (entry_length i h) ∙ ap length q in omega arith) in
        let lt : low_first rest < 2 ^ 64 = rw eight at (first_lt rest small) in
        let n : entry.import_of form (limit_at (field_of i)) kind (low_first rest) ≡ Some z =
        sym (ap (entry_number form (limit_at (field_of i))) q) ∙ number_found i h in
        let b = one.exports_back form (limit_at (field_of i)) kind (low_first rest) z lt n in
        ap (entry_bytes form) (at_found i h)
        ∙ ap₂ (λ (k u : ℕ). k ∷ low_bytes 8 u) (sym b.0) b.1
        ∙ ap (λ (r : List ℕ). kind ∷ r) (ap (λ (k : ℕ). low_bytes k (low_first rest)) (sym eight) ∙ bytes_first rest small)

    bytes_again : bytes_of (gather param_count (value_at s)) ≡ s
    unfolding bytes_of
    bytes_again =
        gather_below param_count (bytes_at (gather param_count (value_at s))) (entry_at s) (λ i h. entry_again i h (entry_at s i) refl)
        ∙ blocks s param_count
        ∙ take_all 1323 s (omega arith)

-- what an accepted import says
pub import_is_accepted :
    (s : List ℕ) (n : ℕ) → (import_of s).verdict ≡ Ok n →
    (length s ≡ supplier_bytes)
    × (first param_count (broken_at s) ≡ None)
    × (first_broken (sheet First (gather param_count (value_at s))) ≡ None)
    × (n ≡ supplier_bytes)
    × ((import_of s).params.numbers ≡ gather param_count (value_at s))
unfolding import_of entries_of
import_is_accepted s n e = sized (eqb (length s) supplier_bytes) refl
  where
    xs : List ℤ
    xs = gather param_count (value_at s)

    Goal : Type 0
    Goal =
        (length s ≡ supplier_bytes)
        × (first param_count (broken_at s) ≡ None)
        × (first_broken (sheet First xs) ≡ None)
        × (n ≡ supplier_bytes)
        × ((import_of s).params.numbers ≡ xs)

    kept : eqb (length s) supplier_bytes ≡ true → first param_count (broken_at s) ≡ None → (f : Option ℕ) → first_broken (sheet First xs) ≡ f →
        (judged_by f (sheet First xs) supplier_bytes).verdict ≡ Ok n → Goal
    kept t q (Some i) p d = let z : ◌≡◌ {A = ℕ} 0 1 = cc in absurd (omega arith)
    kept t q None p d =
        let w : supplier_bytes ≡ n = cc in
        (eqb-true (length s) supplier_bytes t, q, p, sym w, rw (t, q, p))

    passed : eqb (length s) supplier_bytes ≡ true → (f : Option ℕ) → first param_count (broken_at s) ≡ f → (judged (outcome_by f xs)).verdict
        ≡ Ok n → Goal
    passed t (Some i) q d = let z : ◌≡◌ {A = ℕ} 0 1 = cc in absurd (omega arith)
    passed t None q d = kept t q (first_broken (sheet First xs)) refl d

    sized : (b : Bool) → eqb (length s) supplier_bytes ≡ b → Goal
    sized true t = passed t (first param_count (broken_at s)) refl (rw t at e)
    sized false t = let d : Err (Malformed (length s)) ≡ Ok n = rw t at e in let z : ◌≡◌ {A = ℕ} 0 1 = cc in absurd (omega arith)

pub exports_back : ExportsBack
unfolding export_of
exports_back s buf n bytes room e =
    let a = import_is_accepted s n e in
    let xs = gather param_count (value_at s) in
    let b = bytes_again s bytes a.0 a.1 in (
      a.3 ∙ sym a.0,
      rw (a.4, le-ltb (length buf) supplier_bytes room, a.2, b, a.3)
          (ap (λ (o : List ℕ). record { answer = Ok supplier_bytes; bytes = o })
          (sets-eq s buf 0 (omega (arith, a.0)) ∙ rw (zero-add (length s), a.0))),
    )
