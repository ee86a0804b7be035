-- Events of a trace (01, "The trace program"): "events as unsigned groups (P5 signed): kind, now, arguments", in the editions of 02.
use Rattle.std.specs.Prelude.{Option, Some, None, Result, Ok, Err}
use Rattle.std.specs.Prelude.{ℕ, zero, suc, ◌+◌, ◌-◌, ◌≡◌, Bool, cond, ◌&&◌, List, [], ◌∷◌, ◌++◌, eqb, leb, ltb, length, get_or, take, drop}
use Rattle.index.specs.Index.{every}
use Rattle.varint.specs.Groups.{read_at}
use Rattle.varint.specs.Codes.{number_of}
use Rattle.records.specs.Records.{slot_count}
use Rattle.sets.specs.Sets.{ascending, is_permutation}
use Rattle.trace_events.specs.declared.Edition.{Edition}
use Rattle.trace_events.specs.declared.Edition.TheVariants.{First, Second, Third}
use Rattle.trace_events.specs.declared.NumberError.{NumberError}
use Rattle.rules.specs.Calls.{Call, connect, disconnect, join, leave, subscribe, unsubscribe, graft, prune, deliver, rate, heartbeat, decay}
use Rattle.rules.specs.Calls.{score}

-- ---- what the editions change
-- "Trace and saved forms get edition 2 [..]; edition 1 is still read: an old draw orders slots 0..63": how many slots these are
abbrev pub old_slots : ℕ
old_slots = 64

-- how many numbers a permutation has
abbrev pub order_size : Edition → ℕ
order_size First = old_slots
order_size Second = slot_count
order_size Third = slot_count

-- how many numbers a connect has before its groups are known: "A trace with a count and groups in its connect is edition 3" (02, order 11),
-- and in the others it has one group
abbrev pub connect_size : Edition → ℕ
connect_size First = 5
connect_size Second = 5
connect_size Third = 3

-- "and the others follow by slot"; of a permutation of all slots there are none
unfoldable pub widened : List ℕ → List ℕ
widened order = order ++ ascending (length order) (slot_count - length order)

-- so an old permutation is one of all slots exactly if it is "each of 0..63 once", and a new one stands as it is
abbrev pub OldOrders : Type 0
OldOrders = (order : List ℕ) → length order ≡ old_slots → is_permutation slot_count (widened order) ≡ is_permutation old_slots order

abbrev pub WholeOrders : Type 0
WholeOrders = (order : List ℕ) → length order ≡ slot_count → widened order ≡ order

-- ---- numbers one after the other
-- the numbers and the place after them, or the place of the first that cannot be read
pub data Numbers : Type 0 where
  numbers : List ℕ → ℕ → Numbers
  broken : ℕ → Numbers

abbrev pub more : ℕ → Numbers → Numbers
more u (numbers us next) = numbers (u ∷ us) next
more u (broken p) = broken p

abbrev pub number_then : (ℕ → Numbers) → ℕ → Option (ℕ × ℕ) → Numbers
number_then rest at None = broken at
number_then rest at (Some (u, next)) = more u (rest next)

unfoldable pub numbers_from : ℕ → List ℕ → ℕ → Numbers
numbers_from zero s at = numbers [] at
numbers_from (suc n) s at = number_then (λ next. numbers_from n s next) at (read_at 18446744073709551615 s at)

-- what a reading of n comes to, from the list that they were put into
abbrev pub outcome : ℕ → Result ℕ NumberError → List ℕ → Numbers
outcome n (Ok next) values = numbers (take n values) next
outcome n (Err e) values = broken e.place

-- a number that cannot be read at a place may yet be completed by further bytes: all that are there say that more follow, and ten would
-- be above 64 bits
unfoldable pub cut_short : List ℕ → ℕ → Bool
cut_short s at = ltb (length s - at) 10 && every (length s - at) (λ k. leb 128 (get_or s (at + k) 0))

-- ---- one event
-- how many numbers follow the kind, the time counted: "1 connect id group flags name-length name-bytes; 2 disconnect id; 3 join, 4 leave
-- topic; 5 subscribe, 6 unsubscribe id topic; 7 GRAFT id topic; 8 PRUNE id topic seconds; 9 delivery id topic kind; 10 P5 id value;
-- 11 tidy topic ask draw; 12 decay; 13 score id"; neither the name nor the draw is counted, nor in edition 3 what follows the count of a
-- connect's groups; 0 for an unknown kind
unfoldable pub arities : Edition → List ℕ
arities e = 0 ∷ connect_size e ∷ 2 ∷ 2 ∷ 2 ∷ 3 ∷ 3 ∷ 3 ∷ 4 ∷ 4 ∷ 3 ∷ 3 ∷ 1 ∷ 2 ∷ []

-- the most that an event has
abbrev pub number_most : ℕ
number_most = 5

unfoldable pub arity : Edition → ℕ → ℕ
arity e kind = get_or (arities e) kind 0

-- the call of a kind other than connect, from its numbers and, of a heartbeat, the permutation
unfoldable pub call_of : ℕ → List ℕ → List ℕ → Call
call_of kind us order =
    let time : ℕ = get_or us 0 0 in
    let a : ℕ = get_or us 1 0 in
    let b : ℕ = get_or us 2 0 in
    let c : ℕ = get_or us 3 0 in
    cond (eqb kind 2) (disconnect time a)
    (cond (eqb kind 3) (join time a)
    (cond (eqb kind 4) (leave time a)
    (cond (eqb kind 5) (subscribe time a b)
    (cond (eqb kind 6) (unsubscribe time a b)
    (cond (eqb kind 7) (graft time a b)
    (cond (eqb kind 8) (prune time a b c)
    (cond (eqb kind 9) (deliver time a b c)
    (cond (eqb kind 10) (rate time a (number_of b))
    (cond (eqb kind 11) (heartbeat time a b order)
    (cond (eqb kind 12) (decay time) (score time a)))))))))))

-- what stands at a place
pub data Event : Type 0 where
  -- a whole event: its call, and the place after it
  event : Call → ℕ → Event
  -- a kind that is not known: "an unknown kind 2 0, and stop"
  unknown : Event
  -- "bad bytes or a name-length over 64 print 10 0 [..] and stop"
  malformed : Event
  -- the bytes end inside the event: with more bytes it may be whole, and at the end of the trace it is malformed
  short : Event

abbrev pub unread : List ℕ → ℕ → Event
unread s p = cond (cut_short s p) short malformed

-- the longest protocol name that is read: "a name-length over 64" is malformed
abbrev pub name_most : ℕ
name_most = 64

-- a connect, whose name of `size` bytes begins at a place
unfoldable pub named : List ℕ → ℕ → ℕ → List ℕ → ℕ → ℕ → ℕ → Event
named s time id groups flags size at =
    cond (leb size name_most)
    (cond (leb (at + size) (length s)) (event (connect time id groups flags (take size (drop at s))) (at + size)) short)
    malformed

-- with one group
abbrev pub alone : List ℕ → List ℕ → ℕ → Event
alone s us next = named s (get_or us 0 0) (get_or us 1 0) (get_or us 2 0 ∷ []) (get_or us 3 0) (get_or us 4 0) next

-- with the groups that are counted, and behind them flags and name-length
abbrev pub grouped : List ℕ → List ℕ → Numbers → Event
grouped s us (numbers vs next) =
    named s (get_or us 0 0) (get_or us 1 0) (take (get_or us 2 0) vs) (get_or vs (get_or us 2 0) 0) (get_or vs (get_or us 2 0 + 1) 0) next
grouped s us (broken p) = unread s p

-- "a count above four there prints 10 0 and stops"
abbrev pub group_most : ℕ
group_most = 4

abbrev pub counted : List ℕ → List ℕ → ℕ → Event
counted s us next =
    cond (leb (get_or us 2 0) group_most) (grouped s us (numbers_from (get_or us 2 0 + 2) s next)) malformed

abbrev pub connecting : Edition → List ℕ → List ℕ → ℕ → Event
connecting First s us next = alone s us next
connecting Second s us next = alone s us next
connecting Third s us next = counted s us next

-- the permutation, which follows a heartbeat's numbers
abbrev pub ordered : List ℕ → List ℕ → Numbers → Event
ordered s us (numbers order next) = event (call_of 11 us (widened order)) next
ordered s us (broken p) = unread s p

abbrev pub of_numbers : Edition → List ℕ → ℕ → Numbers → Event
of_numbers e s kind (numbers us next) =
    cond (eqb kind 1) (connecting e s us next)
    (cond (eqb kind 11) (ordered s us (numbers_from (order_size e) s next)) (event (call_of kind us []) next))
of_numbers e s kind (broken p) = unread s p

abbrev pub of_kind : Edition → List ℕ → ℕ → Option (ℕ × ℕ) → Event
of_kind e s at None = unread s at
of_kind e s at (Some (kind, next)) =
    cond (eqb (arity e kind) 0) unknown (of_numbers e s kind (numbers_from (arity e kind) s next))

unfoldable pub event_at : Edition → List ℕ → ℕ → Event
event_at e s at = of_kind e s at (read_at 18446744073709551615 s at)
