-- No message is longer: each of at most 72 entries takes at most 71 bytes, and each join or leave, at most 8 of them, at most 70.
-- Assumes nothing.
use Rattle.index.proofs.Kit.{ℕ, ◌+◌, ◌-◌, ◌*◌, ◌<◌, ◌≤◌, ◌≡◌, refl, ap, ◌∙◌, Bool, true, arith, one, by_test, by_order}
use Rattle.index.specs.Index.{every, count, gather}
use Prim.Native.Nat.{zero, suc, ◌/◌}
use mathlib.Core.Bool.{◌&&◌}
use mathlib.Core.List.{List, [], ◌++◌}
use borrow.Author.Tests.{leb-true}
use lib.Dec.{eqb, leb, ltb}
use lib.ListN.{length, get_or, get_or-append}
use lib.Seq.{get_or-append-add}
use Rattle.index.proofs.Index.{both}
use Rattle.varint.specs.Groups.{encode, groups}
use Rattle.message_ids.specs.Ids.{table_ok}
use Rattle.rpc_write.specs.Writing.{value_field, part_field, name_size, name_of, named_bytes, entry_bytes, one_bytes, kind_bytes, control_bytes}
use Rattle.rpc_write.specs.Writing.{inner_field, named_ok, entry_ok, message_of, list_ok, write_of, wrote_value}
use Rattle.rpc_write.proofs.LengthLaws.{is_sub, message_long, short_ids}
use Rattle.rpc_actions.specs.Actions.{actions_ok, changes_ok, change_at, action_at, entries_of, entry_count, write_actions_of}
use Rattle.rpc_actions.specs.Longest.{longest, Longest, AnswersLongest, Reached}
use Rattle.rpc_actions.proofs.ActionLaws.{sizes, gather_length}

-- what stands first in the i-th of triples
first_of : (f : ℕ → List ℕ) → ((i : ℕ) → length (f i) ≡ 3) → (n i : ℕ) → i < n → get_or (gather n f) (3 * i) 0 ≡ get_or (f i) 0 0
unfolding gather
first_of f len zero i h = absurd (omega arith)
first_of f len (suc n) i h =
    let l : length (gather n f) ≡ 3 * n = gather_length f len [] 0 n in
    by_order (get_or (gather n f ++ f n) (3 * i) 0 ≡ get_or (f i) 0 0) i n
    (λ less. get_or-append (gather n f) (f n) 0 (3 * i) (omega arith) ∙ first_of f len n i less)
    (λ more.
    let e : i ≡ n = omega arith in
    let k : 3 * n ≡ length (gather n f) + 0 = omega arith in
    rw (e, k) (get_or-append-add (gather n f) (f n) 0 0))

-- all of the first c count
front_count : (f : ℕ → Bool) (c k : ℕ) → ((i : ℕ) → i < c → f i ≡ true) → k ≤ count k f + (k - c)
unfolding count
front_count f c zero h = omega arith
front_count f c (suc k) h =
    let l = front_count f c k h in
    by_order (suc k ≤ count k f + one (f k) + (suc k - c)) k c
    (λ less. rw (h k less) (omega arith))
    (λ more. omega arith)

module _ (actions topics changes : List ℕ) where
  sub_front : (i : ℕ) → i < length changes / 2 → is_sub (entries_of actions topics changes) i ≡ true
  unfolding entries_of
  sub_front i h =
      let A = gather (length changes / 2) (change_at changes) in
      let B = gather (length topics) (action_at actions topics) in
      let l : length A ≡ 3 * (length changes / 2) = gather_length (change_at changes) (λ i. refl) [] 0 (length changes / 2) in
      ap (λ (x : ℕ). eqb x 0)
      (get_or-append A B 0 (3 * i) (omega arith) ∙ first_of (change_at changes) (λ i. refl) (length changes / 2) i h)

few : (changes : List ℕ) → changes_ok changes ≡ true → length changes / 2 ≤ 8
unfolding changes_ok
few changes e = leb-true (length changes / 2) 8 (both (leb (length changes / 2) 8) (eqb (length changes) (2 * (length changes / 2))) e).0

pub longest_message : Longest
longest_message lent order actions topics changes k a c ok =
    let L = entries_of actions topics changes in
    let n = entry_count topics changes in
    let z = sizes actions topics a in
    omega (
      arith,
      message_long lent (short_ids lent order k) L n ok,
      front_count (is_sub L) (length changes / 2) n (sub_front actions topics changes),
      few changes c,
      z.few,
    )

pub write_most : AnswersLongest
unfolding write_actions_of write_of
write_most lent order actions topics changes buf =
    let L = entries_of actions topics changes in
    let n = entry_count topics changes in
    let P = wrote_value (write_actions_of lent order actions topics changes buf).answer ≤ longest in
    by_test P (actions_ok actions topics && changes_ok changes)
    (λ t.
    by_test P (table_ok lent.ids lent.numbers order && list_ok lent L n)
    (λ u.
    by_test P (ltb (length buf) (length (message_of lent L n)))
    (λ v. rw (t, u, v) (omega arith))
    (λ v.
    let p = both (actions_ok actions topics) (changes_ok changes) t in
    let q = both (table_ok lent.ids lent.numbers order) (list_ok lent L n) u in
    rw (t, u, v) (longest_message lent order actions topics changes q.0 p.0 p.1 q.1)))
    (λ u. rw (t, u) (omega arith)))
    (λ t. rw t (omega arith))

pub reached : Reached
unfolding gather every groups encode entries_of value_field part_field name_size name_of named_bytes entry_bytes one_bytes kind_bytes control_bytes
    inner_field named_ok entry_ok message_of list_ok
reached = (refl, refl)
