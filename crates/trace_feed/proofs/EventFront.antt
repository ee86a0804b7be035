-- An event stays the same with any bytes behind those that are there, unless these end inside it; where it ends, and how many bytes can be
-- there of one that is not whole.
-- Assumes nothing.
use Rattle.std.proofs.Common.{Option, Some, None}
use Prim.{Unit, tt}
use Prim.Native.Nat.{ℕ, zero, suc, ◌+◌, ◌*◌, ◌<◌, ◌≤◌}
use mathlib.Core.Path.{◌≡◌, refl, sym, ap, ◌∙◌}
use mathlib.Core.Bool.{Bool, true, false, false≢true}
use mathlib.Core.List.{List, [], ◌++◌}
use native.Mathlib.Omega.{arith}
use borrow.Author.Tests.{le-leb, leb-true, leb-false, eqb-true}
use lib.Dec.{eqb, leb}
use lib.ListN.{length, get_or, take, drop, length-append, length-drop}
use lib.Seq.{take-append-le, drop-append-le}
use Rattle.index.proofs.Flags.{by_test, cond_case}
use Rattle.varint.specs.Groups.{read_at}
use Rattle.records.specs.Records.{slot_count}
use Rattle.trace_events.specs.declared.Edition.{Edition}
use Rattle.trace_events.specs.declared.Edition.TheVariants.{First, Second, Third}
use Rattle.trace_events.specs.Reading.{order_size, Numbers, numbers, broken, more, number_then, numbers_from, cut_short, arities, arity, call_of}
use Rattle.trace_events.specs.Reading.{Event, event, unknown, malformed, short, unread, name_most, named, group_most, grouped}
use Rattle.trace_events.specs.Reading.{connecting, ordered, of_numbers, of_kind, event_at}
use Rattle.trace_events.proofs.ReadingLaws.{arity_most}
use Rattle.trace_feed.proofs.ReadFront.{most, cut_few, cut_bad, read_stays, cut_stays, read_within, read_near}

-- ---- numbers one after the other
-- the bytes do not end inside the first that cannot be read
abbrev Whole : List ℕ → Numbers → Type 0
Whole w (numbers us next) = Unit {0}
Whole w (broken p) = cut_short w p ≡ false

more_whole : (w : List ℕ) (u : ℕ) (p : Numbers) → Whole w (more u p) → Whole w p
more_whole w u (numbers us next) h = tt
more_whole w u (broken p) h = h

then_stay :
    (w : List ℕ) (at : ℕ) (f g : ℕ → Numbers) (q : Option (ℕ × ℕ)) →
    ((next : ℕ) → Whole w (g next) → f next ≡ g next) →
    Whole w (number_then g at q) →
    number_then f at q ≡ number_then g at q
then_stay w at f g None same h = refl
then_stay w at f g (Some (u, next)) same h = ap (more u) (same next (more_whole w u (g next) h))

module _ (w r : List ℕ) where
  numbers_stay : (n at : ℕ) → Whole w (numbers_from n w at) → numbers_from n (w ++ r) at ≡ numbers_from n w at
  unfolding numbers_from
  numbers_stay zero at h = refl
  numbers_stay (suc n) at h =
      by_test (numbers_from (suc n) (w ++ r) at ≡ numbers_from (suc n) w at) (cut_short w at)
      (λ t. let e = cut_bad w at t most in let f : cut_short w at ≡ false = rw e at h in absurd (false≢true (sym f ∙ t)))
      (λ t. rw (read_stays w at r t)
      (then_stay w at (λ next. numbers_from n (w ++ r) next) (λ next. numbers_from n w next) (read_at most w at)
      (λ next. numbers_stay n next) h))

-- where they end
abbrev Ends : ℕ → ℕ → Numbers → Type 0
Ends len to (numbers us next) = (next ≤ len) × (next ≤ to)
Ends len to (broken p) = p ≤ to

more_ends : (len to u : ℕ) (p : Numbers) → Ends len to p → Ends len to (more u p)
more_ends len to u (numbers us next) h = h
more_ends len to u (broken p) h = h

ends_later : (len to more : ℕ) (p : Numbers) → to ≤ more → Ends len to p → Ends len more p
ends_later len to more (numbers us next) l h = (h.0, omega (arith, h.1))
ends_later len to more (broken p) l h = omega arith

then_ends :
    (s : List ℕ) (n at : ℕ) (f : ℕ → Numbers) (q : Option (ℕ × ℕ)) →
    read_at most s at ≡ q →
    ((next : ℕ) → next ≤ length s → Ends (length s) (next + 10 * n) (f next)) →
    Ends (length s) (at + 10 * suc n) (number_then f at q)
then_ends s n at f None e g = omega arith
then_ends s n at f (Some (u, next)) e g =
    let i = read_within s at u next e in
    let j = read_near s at u next e in
    more_ends (length s) (at + 10 * suc n) u (f next)
    (ends_later (length s) (next + 10 * n) (at + 10 * suc n) (f next) (omega arith) (g next i))

numbers_end : (s : List ℕ) (n at : ℕ) → at ≤ length s → Ends (length s) (at + 10 * n) (numbers_from n s at)
unfolding numbers_from
numbers_end s zero at h = (h, omega arith)
numbers_end s (suc n) at h =
    then_ends s n at (λ next. numbers_from n s next) (read_at most s at) refl (λ next i. numbers_end s n next i)

-- ---- one event
abbrev pub is_short : Event → Bool
is_short (event c next) = false
is_short unknown = false
is_short malformed = false
is_short short = true

unread_whole : (w : List ℕ) (p : ℕ) → is_short (unread w p) ≡ false → cut_short w p ≡ false
unread_whole w p h =
    by_test (cut_short w p ≡ false) (cut_short w p)
    (λ t. let f : true ≡ false = rw t at h in absurd (false≢true (sym f)))
    (λ t. t)

module _ (w r : List ℕ) where
  unread_stays : (p : ℕ) → is_short (unread w p) ≡ false → unread (w ++ r) p ≡ unread w p
  unread_stays p h = let t = unread_whole w p h in rw (t, cut_stays w p r t)

  name_stays : (n next : ℕ) → next + n ≤ length w → take n (drop next (w ++ r)) ≡ take n (drop next w)
  name_stays n next h =
      ap (take n) (drop-append-le next w r (omega arith))
      ∙ take-append-le n (drop next w) r (omega (arith, length-drop next w))

  named_stays :
      (time id : ℕ) (groups : List ℕ) (flags size at : ℕ) →
      is_short (named w time id groups flags size at) ≡ false →
      named (w ++ r) time id groups flags size at ≡ named w time id groups flags size at
  unfolding named
  named_stays time id groups flags size at h =
      by_test (named (w ++ r) time id groups flags size at ≡ named w time id groups flags size at) (leb size name_most)
      (λ t.
      by_test (named (w ++ r) time id groups flags size at ≡ named w time id groups flags size at) (leb (at + size) (length w))
      (λ i.
      let k = leb-true (at + size) (length w) i in
      rw (t, i, le-leb (at + size) (length (w ++ r)) (omega (arith, length-append w r)), name_stays size at k))
      (λ i. let f : true ≡ false = rw (t, i) at h in absurd (false≢true (sym f))))
      (λ t. rw t)

  groups_of : (us : List ℕ) (p : Numbers) → is_short (grouped w us p) ≡ false → grouped (w ++ r) us p ≡ grouped w us p
  groups_of us (numbers vs next) h = named_stays _ _ _ _ _ _ h
  groups_of us (broken p) h = unread_stays p h

  groups_whole : (us : List ℕ) (p : Numbers) → is_short (grouped w us p) ≡ false → Whole w p
  groups_whole us (numbers vs next) h = tt
  groups_whole us (broken p) h = unread_whole w p h

  connecting_stays :
      (g : Edition) (us : List ℕ) (next : ℕ) →
      is_short (connecting g w us next) ≡ false →
      connecting g (w ++ r) us next ≡ connecting g w us next
  connecting_stays First us next h = named_stays _ _ _ _ _ _ h
  connecting_stays Second us next h = named_stays _ _ _ _ _ _ h
  connecting_stays Third us next h =
      let n : ℕ = get_or us 2 0 + 2 in
      by_test (connecting Third (w ++ r) us next ≡ connecting Third w us next) (leb (get_or us 2 0) group_most)
      (λ t.
      let f : is_short (grouped w us (numbers_from n w next)) ≡ false = rw t at h in
      rw t
      (ap (grouped (w ++ r) us) (numbers_stay w r n next (groups_whole us (numbers_from n w next) f))
      ∙ groups_of us (numbers_from n w next) f))
      (λ t. rw t)

  order_of : (us : List ℕ) (p : Numbers) → is_short (ordered w us p) ≡ false → ordered (w ++ r) us p ≡ ordered w us p
  order_of us (numbers order next) h = refl
  order_of us (broken p) h = unread_stays p h

  order_whole : (us : List ℕ) (p : Numbers) → is_short (ordered w us p) ≡ false → Whole w p
  order_whole us (numbers order next) h = tt
  order_whole us (broken p) h = unread_whole w p h

  order_stays :
      (us : List ℕ) (n next : ℕ) →
      is_short (ordered w us (numbers_from n w next)) ≡ false →
      ordered (w ++ r) us (numbers_from n (w ++ r) next) ≡ ordered w us (numbers_from n w next)
  order_stays us n next h =
      ap (ordered (w ++ r) us) (numbers_stay w r n next (order_whole us (numbers_from n w next) h))
      ∙ order_of us (numbers_from n w next) h

  of_whole : (g : Edition) (kind : ℕ) (p : Numbers) → is_short (of_numbers g w kind p) ≡ false → Whole w p
  of_whole g kind (numbers us next) h = tt
  of_whole g kind (broken p) h = unread_whole w p h

-- in every edition
module _ (g : Edition) (w r : List ℕ) where
  numbers_of : (kind : ℕ) (p : Numbers) → is_short (of_numbers g w kind p) ≡ false → of_numbers g (w ++ r) kind p ≡ of_numbers g w kind p
  numbers_of kind (numbers us next) h =
      by_test (of_numbers g (w ++ r) kind (numbers us next) ≡ of_numbers g w kind (numbers us next)) (eqb kind 1)
      (λ t. rw t (connecting_stays w r g us next (rw t at h)))
      (λ t.
      by_test (of_numbers g (w ++ r) kind (numbers us next) ≡ of_numbers g w kind (numbers us next)) (eqb kind 11)
      (λ k. rw (t, k) (order_stays w r us (order_size g) next (rw (t, k) at h)))
      (λ k. rw (t, k)))
  numbers_of kind (broken p) h = unread_stays w r p h

  kind_stays : (at : ℕ) (q : Option (ℕ × ℕ)) → is_short (of_kind g w at q) ≡ false → of_kind g (w ++ r) at q ≡ of_kind g w at q
  kind_stays at None h = unread_stays w r at h
  kind_stays at (Some (kind, next)) h =
      by_test (of_kind g (w ++ r) at (Some (kind, next)) ≡ of_kind g w at (Some (kind, next))) (eqb (arity g kind) 0)
      (λ t. rw t)
      (λ t.
      let n : Numbers = numbers_from (arity g kind) w next in
      let f : is_short (of_numbers g w kind n) ≡ false = rw t at h in
      rw t (ap (of_numbers g (w ++ r) kind) (numbers_stay w r (arity g kind) next (of_whole w r g kind n f)) ∙ numbers_of kind n f))

  pub event_stays : (at : ℕ) → is_short (event_at g w at) ≡ false → event_at g (w ++ r) at ≡ event_at g w at
  unfolding event_at
  event_stays at h =
      by_test (event_at g (w ++ r) at ≡ event_at g w at) (cut_short w at)
      (λ t.
      let f : is_short (unread w at) ≡ false = rw (cut_bad w at t most) at h in
      absurd (false≢true (sym (unread_whole w at f) ∙ t)))
      (λ t. rw (read_stays w at r t) (kind_stays at (read_at most w at) h))

-- ---- where an event ends: within the bytes; and one that is not whole has few
-- 260 numbers of ten bytes and nine of one more, or ten numbers and a name of 64
abbrev pub event_room : ℕ
event_room = 2610

abbrev pub Closes : ℕ → ℕ → Event → Type 0
Closes len at (event c next) = next ≤ len
Closes len at unknown = Unit {0}
Closes len at malformed = Unit {0}
Closes len at short = len < at + event_room

order_most : (g : Edition) → order_size g ≤ slot_count
order_most First = omega arith
order_most Second = omega arith
order_most Third = omega arith

module _ (g : Edition) (s : List ℕ) (at : ℕ) where
  unread_closes : (p : ℕ) → p ≤ at + 2600 → Closes (length s) at (unread s p)
  unread_closes p h =
      cond_case (Closes (length s) at) (cut_short s p) short malformed (λ e. let f = cut_few s p e in omega arith) (λ e. tt)

  named_closes :
      (time id : ℕ) (groups : List ℕ) (flags size next : ℕ) →
      next ≤ at + 120 →
      Closes (length s) at (named s time id groups flags size next)
  unfolding named
  named_closes time id groups flags size next h =
      cond_case (Closes (length s) at) (leb size name_most) _ malformed
      (λ e.
      let i = leb-true size name_most e in
      cond_case (Closes (length s) at) (leb (next + size) (length s)) (event _ (next + size)) short
      (λ f. leb-true (next + size) (length s) f)
      (λ f. let j = leb-false (next + size) (length s) f in omega arith))
      (λ e. tt)

  groups_close : (us : List ℕ) (p : Numbers) → Ends (length s) (at + 120) p → Closes (length s) at (grouped s us p)
  groups_close us (numbers vs next) h = named_closes _ _ _ _ _ next h.1
  groups_close us (broken p) h = unread_closes p (omega arith)

  -- a connect's numbers, and those behind its count
  connecting_closes : (d : Edition) (us : List ℕ) (next : ℕ) → next ≤ length s → next ≤ at + 60 →
      Closes (length s) at (connecting d s us next)
  connecting_closes First us next i h = named_closes _ _ _ _ _ next (omega arith)
  connecting_closes Second us next i h = named_closes _ _ _ _ _ next (omega arith)
  connecting_closes Third us next i h =
      let n : ℕ = get_or us 2 0 + 2 in
      cond_case (Closes (length s) at) (leb (get_or us 2 0) group_most) (grouped s us (numbers_from n s next)) malformed
      (λ e.
      let k = leb-true (get_or us 2 0) group_most e in
      groups_close us (numbers_from n s next)
      (ends_later (length s) (next + 10 * n) (at + 120) (numbers_from n s next) (omega arith) (numbers_end s n next i)))
      (λ e. tt)

  order_closes : (us : List ℕ) (p : Numbers) → Ends (length s) (at + 2600) p → Closes (length s) at (ordered s us p)
  order_closes us (numbers order next) h = h.0
  order_closes us (broken p) h = unread_closes p h

  -- the permutation of a heartbeat begins behind four numbers
  numbers_close :
      (kind to : ℕ) (p : Numbers) →
      (kind ≡ 11 → to ≤ at + 40) →
      to ≤ at + 60 →
      Ends (length s) to p →
      Closes (length s) at (of_numbers g s kind p)
  numbers_close kind to (numbers us next) four all h =
      cond_case (Closes (length s) at) (eqb kind 1) (connecting g s us next) _
      (λ e. connecting_closes g us next h.0 (omega (arith, h.1)))
      (λ e.
      cond_case (Closes (length s) at) (eqb kind 11) (ordered s us (numbers_from (order_size g) s next)) (event (call_of kind us []) next)
      (λ f.
      let i = four (eqb-true kind 11 f) in
      let m = order_most g in
      order_closes us (numbers_from (order_size g) s next)
      (ends_later (length s) (next + 10 * order_size g) (at + 2600) (numbers_from (order_size g) s next) (omega (arith, h.1))
      (numbers_end s (order_size g) next h.0)))
      (λ f. h.0))
  numbers_close kind to (broken p) four all h = unread_closes p (omega arith)

  kind_closes : (q : Option (ℕ × ℕ)) → read_at most s at ≡ q → Closes (length s) at (of_kind g s at q)
  unfolding arity arities
  kind_closes None e = unread_closes at (omega arith)
  kind_closes (Some (kind, next)) e =
      let i = read_within s at kind next e in
      let j = read_near s at kind next e in
      let k = arity_most g kind in
      cond_case (Closes (length s) at) (eqb (arity g kind) 0) unknown (of_numbers g s kind (numbers_from (arity g kind) s next))
      (λ t. tt)
      (λ t.
      numbers_close kind (next + 10 * arity g kind) (numbers_from (arity g kind) s next)
      (λ o. let a : arity g kind ≡ 3 = rw o in omega arith)
      (omega arith)
      (numbers_end s (arity g kind) next i))

  pub event_closes : Closes (length s) at (event_at g s at)
  unfolding event_at
  event_closes = kind_closes (read_at most s at) refl
