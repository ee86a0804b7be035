-- What the reader left in the lent list, written again, gives the same answer and the same buffer: the writer reads the first three numbers
-- of each entry and nothing past them, and those are the entries in order 1's order.
-- Assumes nothing.
use Rattle.index.proofs.Kit.{ℕ, ◌+◌, ◌*◌, ◌≤◌, ◌<◌, arith, ◌≡◌, refl, ap, ◌∙◌, true}
use Rattle.index.specs.Index.{gather}
use Prim.Native.Nat.{zero, suc}
use mathlib.Core.List.{List}
use borrow.Author.Tests.{le-leb}
use lib.ListN.{length, get_or, drop, get_or-append}
use lib.Seq.{sets, length-sets, sets-eq}
use Rattle.index.proofs.Index.{every_by}
use Rattle.rpc.specs.Reading.{Known, Reading}
use Rattle.rpc_write.specs.Writing.{one_bytes, entry_ok, kind_bytes, control_bytes, message_of, list_ok, write_of}
use Rattle.rpc_write.proofs.WriteLaws.{bytes_at, ok_at, good}
use Rattle.rpc_actions.specs.Actions.{entries_of, entry_count}
use Rattle.round_trip.specs.RoundTrip.{in_order, CallWritesAgain}
use Rattle.round_trip.proofs.Triples.{order_ok, order_length}
use Rattle.round_trip.proofs.Calls.{accepted, call_reads_back, order_again}

gather_below : {A : Type 0} (n : ℕ) (f g : ℕ → List A) → ((i : ℕ) → i < n → f i ≡ g i) → gather n f ≡ gather n g
unfolding gather
gather_below zero f g h = refl
gather_below (suc n) f g h = rw (gather_below n f g (λ i l. h i (omega arith)), h n (omega arith))

module _ (k : Known) (xs lent : List ℕ) (n : ℕ) (ok : list_ok k xs n ≡ true) (room : length xs ≤ length lent) where
  abbrev L : List ℕ
  L = sets lent 0 xs

  number : (i : ℕ) → i < 3 * n → get_or L i 0 ≡ get_or xs i 0
  number i h =
      let e = sets-eq xs lent 0 (omega arith) in
      ap (λ (l : List ℕ). get_or l i 0) e
      ∙ get_or-append xs (drop (0 + length xs) lent) 0 i (let g = (good k xs n ok).room in omega arith)

  alike :
      {A : Type 0} (f : ℕ → ℕ → ℕ → A) (i : ℕ) → i < n →
      f (get_or L (3 * i) 0) (get_or L (3 * i + 1) 0) (get_or L (3 * i + 2) 0)
      ≡ f (get_or xs (3 * i) 0) (get_or xs (3 * i + 1) 0) (get_or xs (3 * i + 2) 0)
  alike f i h = rw (number (3 * i) (omega arith), number (3 * i + 1) (omega arith), number (3 * i + 2) (omega arith))

  same_ok : list_ok k L n ≡ true
  unfolding list_ok
  same_ok =
      let q = good k xs n ok in
      let g = q.room in
      let s = length-sets lent 0 xs in
      rw (
        le-leb n 72 q.few,
        le-leb (3 * n) (length L) (omega arith),
        every_by (ok_at k L) n (λ i h. alike (entry_ok k) i h ∙ q.each i h),
      )

  same_message : message_of k L n ≡ message_of k xs n
  unfolding message_of control_bytes kind_bytes
  same_message =
      let each : (kind m : ℕ) → gather n (bytes_at k L kind m) ≡ gather n (bytes_at k xs kind m) = λ kind m.
      gather_below n (bytes_at k L kind m) (bytes_at k xs kind m)
      (λ i h. alike (λ (a b c : ℕ). one_bytes k a b c kind m) i h) in
      rw (each 0 1, each 1 3, each 2 4, each 3 1)

  pub written_alike : (order buf : List ℕ) → write_of k order L n buf ≡ write_of k order xs n buf
  unfolding write_of
  written_alike order buf = rw (same_ok, ok, same_message)

pub call_writes_again : CallWritesAgain
call_writes_again k order actions topics changes buf lent size set e h =
    let a = accepted k order actions topics changes buf size e in
    let l = entries_of actions topics changes in
    let c = entry_count topics changes in
    let o = order_length k l c a.ok in
    let few = (good k l c a.ok).few in
    ap (λ (r : Reading). write_of k order r.list c buf) (call_reads_back k order actions topics changes buf lent size set e h)
    ∙ written_alike k (in_order l c) lent c (order_ok k l c a.ok) (omega arith) order buf
    ∙ order_again k order actions topics changes buf size e
