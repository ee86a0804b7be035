-- An id that stands in a message is found as its row, and its number is that of the entry.
-- Assumes nothing.
use Rattle.std.proofs.Common.{Option, Some, None}
use Rattle.index.proofs.Kit.{ℕ, ◌+◌, ◌-◌, ◌<◌, ◌≡◌, refl, sym, ap, ◌∙◌, true, false, arith, first_hit, by_test}
use mathlib.Core.List.{List, ◌++◌}
use borrow.Author.Tests.{eq-eqb}
use lib.ListN.{length, get_or, length-append, get_or-append}
use lib.Seq.{get_or-append-add}
use Rattle.index.proofs.Index.{every_by}
use Rattle.message_ids.specs.Ids.{id_size, id_start, same_at, is_id, row_of, number_row}
use Rattle.message_ids.proofs.TableLaws.{GoodIds, ids_rise}
use Rattle.message_ids.proofs.FindLaws.{none_below, id_code, row_below, row_number}
use Rattle.rpc_write.specs.Writing.{run, is_found, id_of}
use Rattle.rpc_write.proofs.WriteLaws.{singles}
use Rattle.round_trip.proofs.Topics.{single}

-- the row of a number that is in the table
pub record Row (ids numbers : List ℕ) (v : ℕ) : Type 0 where
  pub row : ℕ
  pub is : number_row numbers v ≡ Some row
  pub low : row < length numbers
  pub number : get_or numbers row 0 ≡ v
  pub bytes : id_of ids numbers v ≡ run ids (id_start row) (id_size ids row)

pub row_is : (ids numbers : List ℕ) (v : ℕ) → is_found (number_row numbers v) ≡ true → Row ids numbers v
unfolding id_of
row_is ids numbers v e = go (number_row numbers v) refl e
  where
    go : (r : Option ℕ) → number_row numbers v ≡ r → is_found r ≡ true → Row ids numbers v
    go (Some k) f g =
        record { row = k; is = f; low = row_below numbers v k f; number = row_number numbers v k f; bytes = rw f }
    go None f g = let z : ◌≡◌ {A = ℕ} 0 1 = cc in absurd (omega arith)

module _ (ids : List ℕ) (rows : ℕ) (g : GoodIds ids rows) (row : ℕ) (low : row < rows) (s before after : List ℕ)
    (e : s ≡ before ++ (run ids (id_start row) (id_size ids row) ++ after)) where
  abbrev size : ℕ
  size = id_size ids row

  abbrev bytes : List ℕ
  bytes = run ids (id_start row) size

  byte : (i : ℕ) → i < size → get_or ids (id_start row + i) 0 ≡ get_or s (length before + i) 0
  byte i l =
      let k = singles (λ i. get_or ids (id_start row + i) 0) size in
      sym (ap (λ (x : List ℕ). get_or x (length before + i) 0) e
      ∙ get_or-append-add before (bytes ++ after) i 0
      ∙ get_or-append bytes after 0 i (omega arith)
      ∙ single (λ i. get_or ids (id_start row + i) 0) size i l)

  here : is_id ids row s (length before) size ≡ true
  unfolding is_id
  here =
      rw (
        eq-eqb size size refl,
        every_by (same_at ids (id_start row) s (length before)) size
            (λ i l. eq-eqb (get_or ids (id_start row + i) 0) (get_or s (length before + i) 0) (byte i l)),
      )

  not_before : (j : ℕ) → j < row → is_id ids j s (length before) size ≡ false
  not_before j l =
      by_test (is_id ids j s (length before) size ≡ false) (is_id ids j s (length before) size)
      (λ t.
      let a = id_code ids s (length before) size j t in
      let b = id_code ids s (length before) size row here in
      let r = ids_rise ids rows g j row l low in
      absurd (omega arith))
      (λ t. t)

  pub row_found : row_of ids rows s (length before) (length (before ++ run ids (id_start row) (id_size ids row)) - length before) ≡ Some row
  unfolding row_of
  row_found =
      let k = singles (λ i. get_or ids (id_start row + i) 0) size in
      let d : length (before ++ bytes) - length before ≡ size = omega (arith, length-append before bytes) in
      rw d (first_hit (λ k. is_id ids k s (length before) size) rows row low
      (none_below (λ k. is_id ids k s (length before) size) row not_before) here)
