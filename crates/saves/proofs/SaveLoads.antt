-- "Every save loads with its sheet."
-- Assumes nothing.
use Rattle.std.proofs.Common.{Some, None}
use Prim.Native.Nat.{ℕ, zero, suc, ◌+◌, ◌*◌, ◌-◌, ◌/◌, ◌%◌, ◌<◌, ◌≤◌}
use native.Mathlib.Omega.{arith}
use mathlib.Core.Path.{◌≡◌, ap, ◌∙◌}
use mathlib.Core.Bool.{Bool, true, false, cond}
use mathlib.Core.List.{List, [], ◌++◌, map, append_assoc, append-nil}
use borrow.Author.Tests.{le-leb, lt-ltb, le-ltb, eqb-true}
use lib.Dec.{eqb, ltb}
use Rattle.params.specs.declared.Params.{Params}
use lib.ListN.{length, get_or, length-append}
use Rattle.index.proofs.Flags.{by_test}
use Rattle.varint.specs.Codes.{code_of}
use Rattle.varint.specs.Groups.{encode, read_at}
use Rattle.varint.proofs.GroupLaws.{read_at_encode}
use Rattle.params.specs.Check.{first_broken}
use Rattle.records.specs.Records.{State, slot_count, peer_in, param_count}
use Rattle.rows.specs.Rows.{joins}
use Rattle.rows.proofs.RowLaws.{length_joins}
use Rattle.validity.specs.Valid.{max_time, valid}
use Rattle.validity.proofs.ValidLaws.{Facts, valid_facts}
use Rattle.lookup.specs.Fresh.{fresh_state}
use Rattle.lookup.proofs.FreshLaws.{fresh_valid}
use Rattle.saves.specs.Save.{edition, saved_row, order, body_of, numbers_of, bytes_of, save_of}
use Rattle.saves.specs.Load.{numbers, parse_from, most_of, prior, ascends, outside, loaded_state}
use Rattle.saves.specs.Load.{loaded, broken, slots_of, records, counted, opened, timed}
use Rattle.saves.specs.Load.{sheeted, load_of}
use Rattle.saves.proofs.Lists.{each_at, below_at, get_or_joins, first_by}
use Rattle.saves.proofs.Parsing.{top, Small, parse_back}
use Rattle.saves.proofs.Ordering.{rises_at, rises_next, Ordered, ordered}
use Rattle.saves.proofs.Rows.{length_saved, length_most, row_id, most_small, saved_used, row_below}

module _
    (st : State)
    (v : valid st ≡ true)
    (params : Params)
    (size : length params.numbers ≡ param_count)
    (ok : first_broken params ≡ None)
    (same : st.codes ≡ map code_of params.numbers)
    (time : ℕ)
    (late : st.clock ≤ time)
  where
    facts : Facts st
    facts = valid_facts st v

    abbrev slots : List ℕ
    slots = order st time

    abbrev body : List ℕ
    body = body_of st time

    abbrev count : ℕ
    count = length slots

    in_order : Ordered st time slot_count slots
    in_order =
        ordered st time (λ s h e. (facts.peer s h).used (saved_used st time s e)) (λ s k h b. facts.ids s k h b)

    slot_below : (k : ℕ) → k < count → get_or slots k 0 < slot_count
    slot_below k h = (each_at _ slots in_order.slots k h).0

    length_body : length body ≡ count * 44
    unfolding body_of
    length_body = length_joins (saved_row st time) 44 (length_saved st time) slots

    number_at : (i : ℕ) → i < count * 44 → get_or body i 0 ≡ get_or (saved_row st time (get_or slots (i / 44) 0)) (i % 44) 0
    unfolding body_of
    number_at i h =
        let e : i ≡ i / 44 * 44 + i % 44 = omega arith in
        ap (λ (k : ℕ). get_or (joins (saved_row st time) slots) k 0) e
        ∙ get_or_joins (saved_row st time) 44 (length_saved st time) slots 0 (i / 44) (i % 44) (omega arith) (omega arith)

    -- ---- the ranges
    body_most : (i : ℕ) → i < count * 44 → get_or body i 0 ≤ get_or (most_of (fresh_state params)) (i % 44) 0
    body_most i h =
        let s = get_or slots (i / 44) 0 in
        let b : s < slot_count = slot_below (i / 44) (omega arith) in
        rw (number_at i h)
        (below_at (saved_row st time s) (most_of (fresh_state params))
        (row_below st facts params same time late s b)
        (i % 44)
        (rw (length_saved st time s) (omega arith)))

    small : Small body
    small i h =
        let l : i < count * 44 = rw length_body at h in
        let a = body_most i l in
        let b : get_or (most_of (fresh_state params)) (i % 44) 0 ≤ 1000000000000 =
        each_at (λ m. m ≤ 1000000000000) (most_of (fresh_state params))
        (most_small (fresh_state params) (valid_facts (fresh_state params) (fresh_valid params size ok)))
        (i % 44)
        (rw (length_most (fresh_state params)) (omega arith)) in
        omega arith

    -- ---- the ids
    id_at : (k : ℕ) → k < count → get_or body (k * 44) 0 ≡ (peer_in st (get_or slots k 0)).id
    id_at k h =
        let q : k * 44 / 44 ≡ k = omega arith in
        let r : k * 44 % 44 ≡ 0 = omega arith in
        number_at (k * 44) (omega arith)
        ∙ ap (λ (m : ℕ). get_or (saved_row st time (get_or slots m 0)) (k * 44 % 44) 0) q
        ∙ ap (λ (m : ℕ). get_or (saved_row st time (get_or slots k 0)) m 0) r
        ∙ row_id st time (get_or slots k 0)

    rises_body : (k : ℕ) → k < count → prior body (k * 44) < get_or body (k * 44) 0
    unfolding prior
    rises_body zero h =
        let a = rises_at st 0 slots in_order.rises h in
        rw (id_at zero h) a
    rises_body (suc k) h =
        let a = rises_next st 0 slots in_order.rises k h in
        let f : ltb (suc k * 44) 44 ≡ false = le-ltb (suc k * 44) 44 (omega arith) in
        let m : suc k * 44 - 44 ≡ k * 44 = omega arith in
        rw (f, m, id_at k (omega arith), id_at (suc k) h) a

    inside : (i : ℕ) → i < count * 44 → outside (most_of (fresh_state params)) body i ≡ false
    unfolding outside ascends
    inside i h =
        let up : ascends body i ≡ true =
        by_test (ascends body i ≡ true) (eqb (i % 44) 0)
        (λ t.
        let z : i % 44 ≡ 0 = eqb-true (i % 44) 0 t in
        let e : i ≡ i / 44 * 44 = omega arith in
        let r : prior body i < get_or body i 0 = rw (← e) at (rises_body (i / 44) (omega arith)) in
        rw (t, lt-ltb (prior body i) (get_or body i 0) r))
        (λ t. rw t) in
        rw (up, le-leb (get_or body i 0) (get_or (most_of (fresh_state params)) (i % 44) 0) (body_most i h))

    -- ---- the bytes
    module _ (clock : ℕ) (early : clock ≤ max_time) where
      abbrev bytes : List ℕ
      bytes = encode edition ++ (encode count ++ bytes_of body)

      abbrev first_place : ℕ
      first_place = length (encode edition)

      abbrev second_place : ℕ
      second_place = first_place + length (encode count)

      read_edition : read_at top bytes 0 ≡ Some (edition, first_place)
      read_edition = read_at_encode top edition [] (encode count ++ bytes_of body) (omega arith) ∙ ap (λ (k : ℕ). Some (edition, k)) (omega arith)

      read_count : read_at top bytes first_place ≡ Some (count, second_place)
      read_count = read_at_encode top count (encode edition) (bytes_of body) (let f = in_order.few in omega arith)

      read_body : parse_from (count * 44) bytes second_place ≡ numbers body (second_place + length (bytes_of body))
      read_body =
          rw (
            append-nil (bytes_of body),
            append_assoc (encode edition) (encode count) (bytes_of body),
            length-append (encode edition) (encode count),
            length_body,
          )
          at (parse_back body (encode edition ++ encode count) [] small)

      length_bytes : length bytes ≡ second_place + length (bytes_of body)
      length_bytes =
          omega (arith, length-append (encode edition) (encode count ++ bytes_of body), length-append (encode count) (bytes_of body))

      end_of_bytes : ltb (second_place + length (bytes_of body)) (length bytes) ≡ false
      end_of_bytes = le-ltb _ (length bytes) (omega (arith, length_bytes))

      records_are : records params clock bytes count second_place ≡ loaded (loaded_state params clock count body)
      unfolding records
      records_are = rw (read_body, end_of_bytes, first_by (outside (most_of (fresh_state params)) body) (count * 44) inside)

      pub loads : load_of true params clock (save_of st time) ≡ loaded (loaded_state params clock (length (order st time)) (body_of st time))
      unfolding load_of slots_of save_of numbers_of bytes_of
      loads =
          ap (sheeted params clock bytes) ok
          ∙ ap (timed params clock bytes) (le-leb clock max_time early)
          ∙ ap (opened params clock bytes) read_edition
          ∙ ap (counted params clock bytes slot_count first_place) read_count
          ∙ ap (λ (b : Bool). cond b (records params clock bytes count second_place) (broken first_place))
          (le-leb count slot_count in_order.few)
          ∙ records_are
