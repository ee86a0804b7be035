-- How long a message is: a subscription takes at most 70 bytes, a GRAFT or PRUNE at most 71, an id with its part of the head of all at most
-- 71 too, and the control field three more.
-- Assumes nothing.
use Rattle.std.proofs.Common.{Option, Some, None}
use Rattle.index.proofs.Kit.{ℕ, ◌+◌, ◌*◌, ◌<◌, ◌≤◌, ◌≡◌, refl, Bool, true, arith, one, by_test, by_order}
use Rattle.index.specs.Index.{gather, count}
use Prim.Native.Nat.{zero, suc}
use mathlib.Core.List.{List, ◌++◌, append-nil}
use lib.Dec.{eqb, ltb, leb}
use lib.ListN.{length, get_or, length-append}
use Rattle.varint.specs.Groups.{encode}
use Rattle.index.proofs.Index.{count_bound}
use Rattle.message_ids.specs.Ids.{id_size, number_row, table_ok}
use Rattle.rpc.specs.Reading.{row_bytes, name_bytes, Known}
use Rattle.rpc_write.specs.Writing.{value_field, part_field, name_size, name_of, id_of, named_bytes, entry_bytes, one_bytes, kind_bytes}
use Rattle.rpc_write.specs.Writing.{control_bytes, inner_field, message_of, list_ok}
use Rattle.rpc_write.proofs.WriteLaws.{size_one, size_two, value_zero, part_length, name_length, id_size_is, no_id, bytes_at, ok_at}
use Rattle.rpc_write.proofs.WriteLaws.{good, Fits, sub, graft, prune, notice, fits}
use borrow.Author.Tests.{leb-true, eqb-false}

abbrev pub is_sub : List ℕ → ℕ → Bool
is_sub list i = eqb (get_or list (3 * i) 0) 0

abbrev pub is_notice : List ℕ → ℕ → Bool
is_notice list i = eqb (get_or list (3 * i) 0) 3

-- ---- numbers and fields
number_long : (n : ℕ) → n < 16384 → length (encode n) ≤ 2
number_long n h = by_order (length (encode n) ≤ 2) n 128 (λ l. omega (arith, (size_one n l).0)) (λ l. omega (arith, (size_two n l h).0))

value_long : (number v k : ℕ) → number < 16 → length (encode v) ≤ k → length (value_field number v) ≤ k + 1
unfolding value_field
value_long number v k h l =
    by_test (length (value_field number v) ≤ k + 1) (eqb v 0)
    (λ t. rw t (omega arith))
    (λ t. rw t (omega (arith, length-append (encode (8 * number)) (encode v), (size_one (8 * number) (omega arith)).0)))

part_one : (number : ℕ) (c : List ℕ) → number < 15 → length c < 128 → length (part_field number c) ≡ length c + 2
part_one number c h l = omega (arith, part_length number c, (size_one (8 * number + 2) (omega arith)).0, (size_one (length c) l).0)

part_long : (number : ℕ) (c : List ℕ) → number < 15 → length c < 16384 → length (part_field number c) ≤ length c + 3
part_long number c h l = omega (arith, part_length number c, (size_one (8 * number + 2) (omega arith)).0, number_long (length c) l)

pub name_short : (names : List ℕ) (topic : ℕ) → length (name_of names topic) ≤ name_bytes
unfolding name_size
name_short names topic =
    let e = name_length names topic in
    by_test (length (name_of names topic) ≤ name_bytes) (ltb topic 8)
    (λ t.
    by_test (length (name_of names topic) ≤ name_bytes) (leb (get_or names (row_bytes * topic) 0) name_bytes)
    (λ u. rw (← e, t, u) (leb-true (get_or names (row_bytes * topic) 0) name_bytes u))
    (λ u. rw (← e, t, u) (omega arith)))
    (λ t. rw (← e, t) (omega arith))

-- ---- an entry's message: a value, the name, a value; a subscription's is one byte shorter than the longest
named_long :
    (names : List ℕ) (topic number : ℕ) (a b : List ℕ) → number < 15 →
    length (a ++ (part_field number (name_of names topic) ++ b)) ≤ length a + 66 + length b
named_long names topic number a b h =
    let N = name_of names topic in
    let n = name_short names topic in
    let p = part_one number N h (omega arith) in
    omega (arith, length-append a (part_field number N ++ b), length-append (part_field number N) b)

pub named_most :
    (lent : Known) (kind topic v : ℕ) → Fits lent kind topic v → (kind ≡ 3 → ⊥) →
    length (named_bytes lent.names kind topic v) + one (eqb kind 0) ≤ 69
unfolding named_bytes
named_most lent kind topic v (sub n h) k =
    let l = value_long 1 v 1 (omega arith) (omega (arith, (size_one v (omega arith)).0)) in
    omega (arith, named_long lent.names topic 2 (value_field 1 v) (value_field 3 0) (omega arith), (value_zero 3 0 refl).0)
named_most lent kind topic v (graft n) k =
    let a = named_long lent.names topic 1 (value_field 1 0) (value_field 3 0) (omega arith) in
    omega (arith, a, (value_zero 1 0 refl).0, (value_zero 3 0 refl).0)
named_most lent kind topic v (prune n h) k =
    let l = value_long 3 v 2 (omega arith) (number_long v (omega arith)) in
    omega (arith, named_long lent.names topic 1 (value_field 1 0) (value_field 3 v) (omega arith), (value_zero 1 0 refl).0)
named_most lent kind topic v (notice h) k = absurd (k refl)

-- ids are no longer than names
abbrev pub ShortIds : Known → Type 0
ShortIds lent = (v : ℕ) → length (id_of lent.ids lent.numbers v) ≤ name_bytes

pub short_ids : (lent : Known) (order : List ℕ) → table_ok lent.ids lent.numbers order ≡ true → ShortIds lent
short_ids lent order ok v = go (number_row lent.numbers v) refl
  where
    go : (r : Option ℕ) → r ≡ number_row lent.numbers v → length (id_of lent.ids lent.numbers v) ≤ name_bytes
    go (Some k) e =
        let z = id_size_is lent.ids lent.numbers order ok v (Some k) e k refl (id_size lent.ids k) refl in
        let l = z.1 in
        omega (arith, z.0)
    go None e = let z = no_id lent.ids lent.numbers order ok v None e refl in omega (arith, z.0)

module _ (lent : Known) (short : ShortIds lent) where
  -- ---- as a field: an entry is of one kind only, and an id's is five bytes shorter than the longest
  abbrev all_kinds : ℕ → ℕ → ℕ → ℕ
  all_kinds own topic v =
      length (one_bytes lent own topic v 0 1) + length (one_bytes lent own topic v 1 3) + length
      (one_bytes lent own topic v 2 4) + length (one_bytes lent own topic v 3 1)

  one_long : (own topic v : ℕ) → Fits lent own topic v → all_kinds own topic v + one (eqb own 0) + 5 * one (eqb own 3) ≤ 71
  unfolding one_bytes entry_bytes
  one_long own topic v (sub n h) =
      let l = named_most lent 0 topic v (sub n h) (λ e. omega arith) in
      omega (arith, part_one 1 (named_bytes lent.names 0 topic v) (omega arith) (omega arith))
  one_long own topic v (graft n) =
      let l = named_most lent 1 topic 0 (graft n) (λ e. omega arith) in
      omega (arith, part_one 3 (named_bytes lent.names 1 topic 0) (omega arith) (omega arith))
  one_long own topic v (prune n h) =
      let l = named_most lent 2 topic v (prune n h) (λ e. omega arith) in
      omega (arith, part_one 4 (named_bytes lent.names 2 topic v) (omega arith) (omega arith))
  one_long own topic v (notice h) =
      let l = short v in
      omega (arith, part_one 1 (id_of lent.ids lent.numbers v) (omega arith) (omega arith))

  id_long : (own topic v : ℕ) → length (one_bytes lent own topic v 3 1) ≤ 66 * one (eqb own 3)
  unfolding one_bytes entry_bytes
  id_long own topic v =
      let l = short v in
      by_test (length (one_bytes lent own topic v 3 1) ≤ 66 * one (eqb own 3)) (eqb own 3)
      (λ t. rw t (omega (arith, part_one 1 (id_of lent.ids lent.numbers v) (omega arith) (omega arith)))) (λ t. rw t (omega arith))

  -- ---- all entries
  pub all_long :
      (list : List ℕ) (n : ℕ) → ((i : ℕ) → i < n → ok_at lent list i ≡ true) →
      length (gather n (bytes_at lent list 0 1)) + length (gather n (bytes_at lent list 1 3)) + length
      (gather n (bytes_at lent list 2 4)) + length (gather n (bytes_at lent list 3 1)) + count n (is_sub list) + 5 * count n (is_notice list)
      ≤ 71 * n
  unfolding gather count
  all_long list zero o = omega arith
  all_long list (suc n) o =
      let k = get_or list (3 * n) 0 in
      let t = get_or list (3 * n + 1) 0 in
      let v = get_or list (3 * n + 2) 0 in
      omega (
        arith,
        length-append (gather n (bytes_at lent list 0 1)) (bytes_at lent list 0 1 n),
        length-append (gather n (bytes_at lent list 1 3)) (bytes_at lent list 1 3 n),
        length-append (gather n (bytes_at lent list 2 4)) (bytes_at lent list 2 4 n),
        length-append (gather n (bytes_at lent list 3 1)) (bytes_at lent list 3 1 n),
        one_long k t v (fits lent k t v (o n (omega arith))),
        all_long list n (λ i h. o i (omega arith)),
      )

  ids_long : (list : List ℕ) (n : ℕ) → length (gather n (bytes_at lent list 3 1)) ≤ 66 * count n (is_notice list)
  unfolding gather count
  ids_long list zero = omega arith
  ids_long list (suc n) =
      let k = get_or list (3 * n) 0 in
      let a = length-append (gather n (bytes_at lent list 3 1)) (bytes_at lent list 3 1 n) in
      omega (arith, a, id_long k (get_or list (3 * n + 1) 0) (get_or list (3 * n + 2) 0), ids_long list n)

  -- ---- the ids' field: five bytes for each id pay for its head
  notices_long :
      (list : List ℕ) (n : ℕ) → n ≤ 72 →
      length (inner_field 5 (gather n (bytes_at lent list 3 1)))
      ≤ length (gather n (bytes_at lent list 3 1)) + 5 * count n (is_notice list)
  unfolding inner_field
  notices_long list n few =
      let I = gather n (bytes_at lent list 3 1) in
      let l = ids_long list n in
      let m = count_bound (is_notice list) n in
      by_test (length (inner_field 5 I) ≤ length I + 5 * count n (is_notice list)) (eqb (length I) 0)
      (λ t. rw t (omega arith))
      (λ t. rw t (let z = eqb-false (length I) 0 t in
      let pos : 0 < count n (is_notice list) = by_order (0 < count n (is_notice list)) 0 (count n (is_notice list)) (λ a. a)
      (λ a. absurd (z (omega arith))) in
      omega (arith, part_long 5 I (omega arith) (omega arith))))

  -- ---- the control message, the message
  pub control_most :
      (list : List ℕ) (n : ℕ) → list_ok lent list n ≡ true →
      length (kind_bytes lent list n 0 1) + length (control_bytes lent list n) + count n (is_sub list) ≤ 71 * n
  unfolding control_bytes kind_bytes
  control_most list n ok =
      let g = good lent list n ok in
      let G = gather n (bytes_at lent list 1 3) in
      let P = gather n (bytes_at lent list 2 4) in
      let F = inner_field 5 (gather n (bytes_at lent list 3 1)) in
      let l = all_long list n g.each in
      let k = notices_long list n g.few in
      omega (arith, length-append G (P ++ F), length-append P F)

  pub message_long :
      (list : List ℕ) (n : ℕ) → list_ok lent list n ≡ true → length (message_of lent list n) + count n (is_sub list) ≤ 71 * n + 3
  unfolding message_of inner_field
  message_long list n ok =
      let S = kind_bytes lent list n 0 1 in
      let C = control_bytes lent list n in
      let l = control_most list n ok in
      let f = (good lent list n ok).few in
      by_test (length (message_of lent list n) + count n (is_sub list) ≤ 71 * n + 3) (eqb (length C) 0)
      (λ t. rw (t, append-nil S) (omega arith))
      (λ t. rw t (omega (arith, length-append S (part_field 3 C), part_long 3 C (omega arith) (omega arith))))

pub control_long :
    (lent : Known) (order list : List ℕ) (n size : ℕ) → table_ok lent.ids lent.numbers order ≡ true → list_ok lent list n ≡ true →
    size ≡ length (control_bytes lent list n) → size ≤ 11520
control_long lent order list n size k ok e =
    let l = control_most lent (short_ids lent order k) list n ok in
    let f = (good lent list n ok).few in
    omega arith
