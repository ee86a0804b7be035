-- How long a save can be: no record is longer than one whose numbers are all the greatest, for a greater number takes no fewer bytes.
-- Assumes nothing.
use Prim.Native.Nat.{ℕ, zero, suc, ◌+◌, ◌*◌, ◌/◌, ◌<◌, ◌≤◌, suc-le-suc}
use native.Mathlib.Omega.{arith}
use mathlib.Core.Path.{◌≡◌, refl, sym, ap, ◌∙◌}
use mathlib.Core.Bool.{true}
use mathlib.Core.List.{List, [], ◌∷◌, ◌++◌, map}
use lib.ListN.{length, get_or, length-append}
use Rattle.index.specs.Index.{gather}
use Rattle.index.proofs.Flags.{by_order}
use Rattle.varint.specs.Codes.{code_of, number_of}
use Rattle.varint.specs.Groups.{encode}
use Rattle.varint.proofs.CodeLaws.{code_number}
use Rattle.varint.proofs.GroupLaws.{length_last, length_more, length_pos}
use Rattle.params.specs.declared.Edition.TheVariants.{First}
use Rattle.params.specs.Editions.{coded}
use Rattle.records.specs.Records.{State, slot_count, topic_count, code_in}
use Rattle.rows.specs.Rows.{joins}
use Rattle.validity.specs.Valid.{max_id, topic_param, valid}
use Rattle.validity.proofs.ValidLaws.{valid_facts}
use Rattle.lookup.specs.Fresh.{fresh_state}
use Rattle.saves.specs.Save.{is_saved, saved_row, order, body_of, numbers_of, bytes_of, save_of}
use Rattle.saves.specs.Load.{most_of, most_retain, most_backoff}
use Rattle.saves.proofs.Lists.{Each, below_at}
use Rattle.saves.proofs.Ordering.{Ordered, ordered}
use Rattle.saves.proofs.Rows.{length_saved, saved_used, row_below}
use Rattle.save_write.proofs.WriteLaws.{bytes_append}
use Rattle.save_load.specs.Store.{widest}
use Rattle.save_load.proofs.RangeLaws.{most_wide}
use Rattle.host_saves.specs.Saving.{longest_save}

-- ---- a greater number takes no fewer bytes. By induction on a bound of it
grows_to : (k n m : ℕ) → m ≤ k → n ≤ m → length (encode n) ≤ length (encode m)
grows_to zero n m h l =
    omega (arith, length_last n (omega arith), length_last m (omega arith))
grows_to (suc k) n m h l =
    by_order (length (encode n) ≤ length (encode m)) n 128
    (λ b. omega (arith, length_last n b, length_pos m))
    (λ b. omega (arith, length_more n b, length_more m (omega arith), grows_to k (n / 128) (m / 128) (omega arith) (omega arith)))

grows : (n m : ℕ) → n ≤ m → length (encode n) ≤ length (encode m)
grows n m l = grows_to m n m (omega arith) l

bytes_grow :
    (l m : List ℕ) →
    length l ≡ length m →
    ((j : ℕ) → j < length l → get_or l j 0 ≤ get_or m j 0) →
    length (bytes_of l) ≤ length (bytes_of m)
unfolding bytes_of
bytes_grow [] m e h = omega arith
bytes_grow (n ∷ l) [] e h = absurd (omega arith)
bytes_grow (n ∷ l) (k ∷ m) e h =
    omega (
      arith,
      length-append (encode n) (bytes_of l),
      length-append (encode k) (bytes_of m),
      grows n k (h 0 (omega arith)),
      bytes_grow l m (omega arith) (λ j b. h (suc j) (suc-le-suc b)),
    )

-- ---- one record
widest_length : length widest ≡ 44
unfolding widest gather
widest_length = refl

widest_bytes : length (bytes_of widest) ≡ 169
unfolding widest gather bytes_of encode Rattle.varint.specs.Groups.groups
widest_bytes = refl

-- the ranges of a router's records go by its codes alone
most_same : (st u : State) → u.codes ≡ st.codes → most_of u ≡ most_of st
unfolding most_of topic_param code_in
most_same st u e =
    ap
    (λ (c : List ℕ).
    max_id
    ∷ most_retain
    ∷ 2000000000
    ∷ 1000000
    ∷ gather topic_count (λ t.
    ((get_or c (19 + 16 * t + 6) 0 + 1) / 2)
    ∷ ((get_or c (19 + 16 * t + 9) 0 + 1) / 2)
    ∷ 1000000000000
    ∷ 1000000
    ∷ most_backoff
    ∷ []))
    e

codes_back : (l : List ℕ) → l ≡ map code_of (map number_of l)
codes_back [] = refl
codes_back (n ∷ l) = λ i. sym (code_number n) i ∷ codes_back l i

module _ (st : State) (v : valid st ≡ true) (time : ℕ) (late : st.clock ≤ time) where
  fresh_same : most_of (fresh_state (coded First st.codes)) ≡ most_of st
  unfolding fresh_state
  fresh_same = most_same st (fresh_state (coded First st.codes)) (sym (codes_back st.codes))

  number_most : (s : ℕ) → s < slot_count → (j : ℕ) → j < 44 → get_or (saved_row st time s) j 0 ≤ get_or widest j 0
  number_most s h j b =
      let a : get_or (saved_row st time s) j 0 ≤ get_or (most_of st) j 0 =
      rw fresh_same at
      (below_at (saved_row st time s) (most_of (fresh_state (coded First st.codes)))
      (row_below st (valid_facts st v) (coded First st.codes) (codes_back st.codes) time late s h)
      j
      (rw (length_saved st time s) b)) in
      omega (arith, a, most_wide st v j b)

  row_most : (s : ℕ) → s < slot_count → length (bytes_of (saved_row st time s)) ≤ 169
  row_most s h =
      omega (
        arith,
        widest_bytes,
        bytes_grow (saved_row st time s) widest (length_saved st time s ∙ sym widest_length)
            (λ j b. number_most s h j (rw (length_saved st time s) at b)),
      )

  -- ---- all of them
  rows_most :
      (l : List ℕ) → Each (λ k. (k < slot_count) × (is_saved st time k ≡ true)) l →
      length (bytes_of (joins (saved_row st time) l)) ≤ length l * 169
  unfolding joins bytes_of
  rows_most [] e = omega arith
  rows_most (s ∷ l) e =
      omega (
        arith,
        ap length (bytes_append (saved_row st time s) (joins (saved_row st time) l)),
        length-append (bytes_of (saved_row st time s)) (bytes_of (joins (saved_row st time) l)),
        row_most s e.0.0,
        rows_most l e.1,
      )

  in_order : Ordered st time slot_count (order st time)
  in_order =
      let f = valid_facts st v in
      ordered st time (λ s h e. (f.peer s h).used (saved_used st time s e)) (λ s k h b. f.ids s k h b)

  pub save_most : length (save_of st time) ≤ longest_save
  unfolding save_of numbers_of body_of bytes_of
  save_most =
      let few = in_order.few in
      omega (
        arith,
        few,
        length-append (encode 2) (encode (length (order st time)) ++ bytes_of (joins (saved_row st time) (order st time))),
        length-append (encode (length (order st time))) (bytes_of (joins (saved_row st time) (order st time))),
        length_last 2 (omega arith),
        grows (length (order st time)) 256 few,
        length_more 256 (omega arith),
        length_last 2 (omega arith),
        rows_most (order st time) in_order.slots,
      )
