-- An event takes a byte at least: a whole one ends behind its place.
-- Assumes nothing.
use Rattle.std.proofs.Common.{Option, Some, None}
use Prim.{Unit, tt}
use Prim.Native.Nat.{ℕ, zero, suc, ◌+◌, ◌≤◌, ◌<◌}
use mathlib.Core.List.{List, [], ◌∷◌}
use native.Mathlib.Omega.{arith}
use lib.Dec.{eqb, leb, ltb}
use lib.ListN.{length, get_or, drop}
use Rattle.index.proofs.Flags.{cond_case}
use Rattle.varint.specs.Groups.{Got, got, none, before, decode, up_to, as_read, read_at}
use Rattle.trace_events.specs.Reading.{Numbers, numbers, broken, more, number_then, numbers_from, cut_short, arity, call_of, Event, event}
use Rattle.trace_events.specs.Reading.{name_most, group_most, order_size}
use Rattle.trace_events.specs.Reading.{unknown, malformed, short, unread, named, grouped, connecting, ordered, of_numbers, of_kind}
use Rattle.trace_events.specs.Reading.{event_at}
use Rattle.trace_events.specs.declared.Edition.{Edition}
use Rattle.trace_events.specs.declared.Edition.TheVariants.{First, Second, Third}

-- ---- a number
abbrev Takes : Got → Type 0
Takes none = Unit {0}
Takes (got v n) = 0 < n

before_takes : (b : ℕ) (g : Got) → Takes (before b g)
before_takes b none = tt
before_takes b (got zero n) = tt
before_takes b (got (suc v) n) = omega arith

decode_takes : (s : List ℕ) → Takes (decode s)
unfolding decode
decode_takes [] = tt
decode_takes (b ∷ s) =
    cond_case Takes (ltb b 128) (got b 1) (before b (decode s)) (λ e. omega arith) (λ e. before_takes b (decode s))

abbrev Ahead : ℕ → Option (ℕ × ℕ) → Type 0
Ahead at None = Unit {0}
Ahead at (Some (u, next)) = at < next

got_ahead : (top at : ℕ) (g : Got) → Takes g → Ahead at (as_read at (up_to top g))
got_ahead top at none t = tt
got_ahead top at (got v n) t =
    cond_case (λ (g : Got). Ahead at (as_read at g)) (leb v top) (got v n) none (λ e. omega arith) (λ e. tt)

read_ahead : (top : ℕ) (s : List ℕ) (at : ℕ) → Ahead at (read_at top s at)
unfolding read_at
read_ahead top s at = got_ahead top at (decode (drop at s)) (decode_takes (drop at s))

-- ---- numbers one after the other
abbrev NotBack : ℕ → Numbers → Type 0
NotBack at (numbers us next) = at ≤ next
NotBack at (broken p) = Unit {0}

more_not_back : (at next u : ℕ) (p : Numbers) → at < next → NotBack next p → NotBack at (more u p)
more_not_back at next u (numbers us m) h n = omega arith
more_not_back at next u (broken p) h n = tt

then_not_back :
    (rest : ℕ → Numbers) (at : ℕ) (r : Option (ℕ × ℕ)) → ((next : ℕ) → NotBack next (rest next)) → Ahead at r → NotBack at (number_then rest at r)
then_not_back rest at None f a = tt
then_not_back rest at (Some (u, next)) f a = more_not_back at next u (rest next) a (f next)

numbers_not_back : (n : ℕ) (s : List ℕ) (at : ℕ) → NotBack at (numbers_from n s at)
unfolding numbers_from
numbers_not_back zero s at = omega arith
numbers_not_back (suc n) s at =
    then_not_back (λ next. numbers_from n s next) at (read_at 18446744073709551615 s at) (λ next. numbers_not_back n s next)
    (read_ahead 18446744073709551615 s at)

-- ---- a whole event
abbrev pub Behind : ℕ → Event → Type 0
Behind at (event c next) = at < next
Behind at unknown = Unit {0}
Behind at malformed = Unit {0}
Behind at short = Unit {0}

unread_behind : (at : ℕ) (s : List ℕ) (p : ℕ) → Behind at (unread s p)
unread_behind at s p = cond_case (Behind at) (cut_short s p) short malformed (λ e. tt) (λ e. tt)

named_behind : (at : ℕ) (s : List ℕ) (time id : ℕ) (groups : List ℕ) (flags size next : ℕ) → at < next →
    Behind at (named s time id groups flags size next)
unfolding named
named_behind at s time id groups flags size next h =
    cond_case (Behind at) (leb size name_most) _ malformed
    (λ e. cond_case (Behind at) (leb (next + size) (length s)) (event _ (next + size)) short (λ e. omega arith) (λ e. tt))
    (λ e. tt)

grouped_behind : (at next : ℕ) (s us : List ℕ) (p : Numbers) → at < next → NotBack next p → Behind at (grouped s us p)
grouped_behind at next s us (numbers vs m) h n = named_behind at s _ _ _ _ _ m (omega arith)
grouped_behind at next s us (broken p) h n = unread_behind at s p

connecting_behind : (g : Edition) (at : ℕ) (s us : List ℕ) (next : ℕ) → at < next → Behind at (connecting g s us next)
connecting_behind First at s us next h = named_behind at s _ _ _ _ _ next h
connecting_behind Second at s us next h = named_behind at s _ _ _ _ _ next h
connecting_behind Third at s us next h =
    let n : ℕ = get_or us 2 0 + 2 in
    cond_case (Behind at) (leb (get_or us 2 0) group_most) (grouped s us (numbers_from n s next)) malformed
    (λ e. grouped_behind at next s us (numbers_from n s next) h (numbers_not_back n s next))
    (λ e. tt)

order_behind : (at next : ℕ) (s us : List ℕ) (p : Numbers) → at < next → NotBack next p → Behind at (ordered s us p)
order_behind at next s us (numbers order m) h n = omega arith
order_behind at next s us (broken p) h n = unread_behind at s p

module _ (g : Edition) where
  numbers_behind :
      (at next : ℕ) (s : List ℕ) (kind : ℕ) (p : Numbers) → at < next → NotBack next p → Behind at (of_numbers g s kind p)
  numbers_behind at next s kind (numbers us m) h n =
      cond_case (Behind at) (eqb kind 1) (connecting g s us m) _ (λ e. connecting_behind g at s us m (omega arith))
      (λ e.
      cond_case (Behind at) (eqb kind 11) (ordered s us (numbers_from (order_size g) s m)) (event (call_of kind us []) m)
      (λ f. order_behind at m s us (numbers_from (order_size g) s m) (omega arith) (numbers_not_back (order_size g) s m))
      (λ f. omega arith))
  numbers_behind at next s kind (broken p) h n = unread_behind at s p

  kind_behind : (s : List ℕ) (at : ℕ) (r : Option (ℕ × ℕ)) → Ahead at r → Behind at (of_kind g s at r)
  kind_behind s at None a = unread_behind at s at
  kind_behind s at (Some (kind, next)) a =
      cond_case (Behind at) (eqb (arity g kind) 0) unknown (of_numbers g s kind (numbers_from (arity g kind) s next))
      (λ e. tt)
      (λ e. numbers_behind at next s kind (numbers_from (arity g kind) s next) a (numbers_not_back (arity g kind) s next))

  pub event_behind : (s : List ℕ) (at : ℕ) → Behind at (event_at g s at)
  unfolding event_at
  event_behind s at =
      kind_behind s at (read_at 18446744073709551615 s at) (read_ahead 18446744073709551615 s at)
