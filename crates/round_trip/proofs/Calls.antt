-- What the call leaves in the buffer is read back, and written again gives the same: where it answers 0 its list was accepted and there was
-- room, so the buffer begins with the message.
-- Assumes nothing.
use Rattle.std.proofs.Common.{Result, Ok, Err}
use Rattle.rpc_write.specs.declared.WriteError.{WriteError}
use Rattle.rpc_write.specs.declared.WriteError.TheVariants.{NotList, Short}
use Rattle.index.proofs.Kit.{ℕ, ◌+◌, ◌≤◌, ◌≡◌, sym, ap, ◌∙◌, true, arith, by_test}
use mathlib.Core.Bool.{◌&&◌}
use mathlib.Core.List.{List}
use borrow.Author.Tests.{ltb-false, le-ltb}
use lib.Dec.{ltb}
use lib.ListN.{length, take, drop}
use lib.Seq.{sets, sets-eq, take-append_seam}
use Rattle.index.proofs.Index.{both}
use Rattle.message_ids.specs.Ids.{table_ok}
use Rattle.rpc.specs.Reading.{Known, read_of}
use Rattle.rpc_write.specs.Writing.{Writing, list_ok, message_of, write_of, wrote_number, wrote_value}
use Rattle.rpc_actions.specs.Actions.{actions_ok, changes_ok, entries_of, entry_count, write_actions_of}
use Rattle.round_trip.specs.RoundTrip.{in_order, CallReadsBack}
use Rattle.round_trip.proofs.Triples.{order_ok, writes_again}
use Rattle.round_trip.proofs.RoundTrip.{reads_back}

-- the message at the front of a buffer with room for it
front : (buf m : List ℕ) → length m ≤ length buf → take (length m) (sets buf 0 m) ≡ m
front buf m h = ap (take (length m)) (sets-eq m buf 0 (omega arith)) ∙ take-append_seam m (drop (0 + length m) buf)

module _ (k : Known) (order actions topics changes buf : List ℕ) (size : ℕ)
    (e : (write_actions_of k order actions topics changes buf).answer ≡ Ok size) where
  abbrev L : List ℕ
  L = entries_of actions topics changes

  abbrev n : ℕ
  n = entry_count topics changes

  pub record Accepted : Type 0 where
    pub call : write_actions_of k order actions topics changes buf ≡ write_of k order L n buf
    pub table : table_ok k.ids k.numbers order ≡ true
    pub ok : list_ok k L n ≡ true
    pub room : length (message_of k L n) ≤ length buf
    pub size_is : size ≡ length (message_of k L n)

  not_done : (a : Result ℕ WriteError) → (write_actions_of k order actions topics changes buf).answer ≡ a → (wrote_number a ≡ 0 → ⊥) → Accepted
  not_done a f h = absurd (h (ap wrote_number (sym f ∙ e)))

  pub accepted : Accepted
  unfolding write_actions_of write_of
  accepted =
      let T = table_ok k.ids k.numbers order in
      by_test Accepted (actions_ok actions topics && changes_ok changes)
      (λ t.
      by_test Accepted (T && list_ok k L n)
      (λ u.
      by_test Accepted (ltb (length buf) (length (message_of k L n)))
      (λ v. not_done (Err Short) (rw (t, u, v)) (λ q. omega arith))
      (λ v.
      let d : (write_actions_of k order actions topics changes buf).answer ≡ Ok (length (message_of k L n)) = rw (t, u, v) in
      let p = both T (list_ok k L n) u in
      record {
        call = rw t;
        table = p.0;
        ok = p.1;
        room = ltb-false (length buf) (length (message_of k L n)) v;
        size_is = ap wrote_value (sym e ∙ d);
      }))
      (λ u. not_done (Err NotList) (rw (t, u)) (λ q. omega arith)))
      (λ t. not_done (Err NotList) (rw t) (λ q. omega arith))

  left : take size (write_actions_of k order actions topics changes buf).bytes ≡ message_of k L n
  unfolding write_of
  left =
      let a = accepted in
      let M = message_of k L n in
      let b : (write_actions_of k order actions topics changes buf).bytes ≡ sets buf 0 M =
      ap (λ (w : Writing). w.bytes) a.call ∙ rw (a.table, a.ok, le-ltb (length buf) (length M) a.room) in
      rw (b, a.size_is) (front buf M a.room)

pub call_reads_back : CallReadsBack
call_reads_back k order actions topics changes buf lent size set e h =
    let a = accepted k order actions topics changes buf size e in
    ap (λ (x : List ℕ). read_of k order x lent) (left k order actions topics changes buf size e)
    ∙ reads_back k order (entries_of actions topics changes) lent (entry_count topics changes) set a.table a.ok h

-- the entries in order 1's order, written again
pub order_again :
    (k : Known) (order actions topics changes buf : List ℕ) (size : ℕ) →
    (write_actions_of k order actions topics changes buf).answer ≡ Ok size →
    write_of k order (in_order (entries_of actions topics changes) (entry_count topics changes)) (entry_count topics changes) buf
    ≡ write_actions_of k order actions topics changes buf
unfolding write_of
order_again k order actions topics changes buf size e =
    let a = accepted k order actions topics changes buf size e in
    let l = entries_of actions topics changes in
    let c = entry_count topics changes in
    rw (a.table, order_ok k l c a.ok, writes_again k l c a.ok) (sym (a.call ∙ rw (a.table, a.ok)))
