-- Laws of reading an event's numbers: what is known after i of N, and the ends of `read_numbers` and `cut_short`.
-- Assumes nothing.
use Rattle.std.proofs.Common.{Option, Some, None}
use Prim.Native.Nat.{ℕ, zero, suc, ◌+◌, ◌-◌, ◌<◌, ◌≤◌}
use mathlib.Core.Path.{◌≡◌, refl, sym, ap, ◌∙◌}
use mathlib.Core.Bool.{Bool, true, false, ◌&&◌}
use mathlib.Core.List.{List, [], ◌∷◌, ◌++◌, append_assoc, append-nil}
use native.Mathlib.Omega.{arith}
use native.Mathlib.Numerals.{add-one}
use borrow.Author.Tests.{lt-ltb, le-ltb, lt-leb}
use lib.Dec.{leb}
use lib.ListN.{length, take, set, get_or, get_or-eq_default}
use lib.Seq.{take-suc-set, take_all, length-take-le, get_or-set_other}
use Rattle.index.specs.Index.{every}
use Rattle.index.proofs.Index.{every_none, every_fails}
use Rattle.varint.specs.Groups.{read_at}
use Rattle.records.specs.Records.{slot_count}
use Rattle.sets.specs.Sets.{ascending}
use Rattle.trace_events.proofs.WidenedLaws.{ascending_more}
use lib.Dec.{T, leb→le}
use mir.Facts.{and_yes}
use Rattle.trace_events.specs.Reading.{Numbers, numbers, broken, more, number_then, numbers_from, widened, cut_short, arities, arity}
use Rattle.trace_events.specs.Reading.{connect_size, number_most}
use Rattle.trace_events.specs.declared.Edition.{Edition}
use Rattle.trace_events.specs.declared.Edition.TheVariants.{First, Second, Third}

-- numbers that stand before others
abbrev then : List ℕ → Numbers → Numbers
then us (numbers vs next) = numbers (us ++ vs) next
then us (broken p) = broken p

more_is : (u : ℕ) (p : Numbers) → more u p ≡ then (u ∷ []) p
more_is u (numbers vs next) = refl
more_is u (broken p) = refl

then_then : (us vs : List ℕ) (p : Numbers) → then us (then vs p) ≡ then (us ++ vs) p
then_then us vs (numbers ws next) = ap (λ (l : List ℕ). numbers l next) (sym (append_assoc us vs ws))
then_then us vs (broken p) = refl

at_least_one :
    (m : ℕ) (s : List ℕ) (at : ℕ) (r : Option (ℕ × ℕ)) →
    0 < m →
    r ≡ read_at 18446744073709551615 s at →
    numbers_from m s at ≡ number_then (λ next. numbers_from (m - 1) s next) at r
unfolding numbers_from
at_least_one zero s at r h e = absurd (omega arith)
at_least_one (suc m) s at r h e = let f : suc m - 1 ≡ m = omega arith in rw (f, e)

-- what is known after i numbers, which are the first i of an array
abbrev pub After : ℕ → List ℕ → ℕ → ℕ → List ℕ → ℕ → Type 0
After N s from i us at = then (take i us) (numbers_from (N - i) s at) ≡ numbers_from N s from

pub after_none : (N : ℕ) (s : List ℕ) (from : ℕ) (us : List ℕ) → After N s from 0 us from
after_none N s from us = let e : N - 0 ≡ N = omega arith in rw e (nothing (numbers_from N s from))
  where
    nothing : (p : Numbers) → then [] p ≡ p
    nothing (numbers vs next) = refl
    nothing (broken p) = refl

pub after_more :
    (N : ℕ) (s : List ℕ) (from i : ℕ) (us : List ℕ) (at u next : ℕ) (r : Option (ℕ × ℕ)) →
    i < N →
    i < length us →
    After N s from i us at →
    r ≡ read_at 18446744073709551615 s at →
    r ≡ Some (u, next) →
    After N s from (i + 1) (set us i u) next
after_more N s from i us at u next r h l inv e f =
    rw (add-one i, take-suc-set us i u l, ← then_then (take i us) (u ∷ []) (numbers_from (N - suc i) s next))
    (ap (λ (p : Numbers). then (take i us) p) (back ∙ sym (at_least_one (N - i) s at r (omega arith) e)) ∙ inv)
  where
    back : then (u ∷ []) (numbers_from (N - suc i) s next) ≡ number_then (λ next. numbers_from (N - i - 1) s next) at r
    back = let k : N - i - 1 ≡ N - suc i = omega arith in rw (f, k) (sym (more_is u (numbers_from (N - suc i) s next)))

pub after_bad :
    (N : ℕ) (s : List ℕ) (from i : ℕ) (us : List ℕ) (at : ℕ) (r : Option (ℕ × ℕ)) →
    i < N →
    After N s from i us at →
    r ≡ read_at 18446744073709551615 s at →
    r ≡ None →
    broken at ≡ numbers_from N s from
after_bad N s from i us at r h inv e f = rw (at_least_one (N - i) s at r (omega arith) e, f) at inv

pub after_all :
    (N : ℕ) (s : List ℕ) (from i : ℕ) (us : List ℕ) (at : ℕ) →
    N ≡ i →
    After N s from i us at →
    numbers (take N us) at ≡ numbers_from N s from
unfolding numbers_from
after_all N s from i us at h inv =
    let e : N - i ≡ 0 = omega arith in
    let g : numbers (take i us ++ []) at ≡ numbers_from N s from = rw e at inv in
    ap (λ (k : ℕ). numbers (take k us) at) h ∙ ap (λ (l : List ℕ). numbers l at) (sym (append-nil (take i us))) ∙ g

-- the numbers past those that were read stay
pub past_more : (us : List ℕ) (i u k x : ℕ) → (i ≤ k → get_or us k 0 ≡ x) → i + 1 ≤ k → get_or (set us i u) k 0 ≡ x
past_more us i u k x z h = get_or-set_other us i k u 0 (λ e. omega arith) ∙ z (omega arith)

-- ---- the loop of `widen`: behind an order of the first n slots stand those up to k
abbrev pub Widened : List ℕ → ℕ → ℕ → List ℕ → Type 0
Widened order n k now = take k now ≡ take n order ++ ascending n (k - n)

pub widened_none : (order : List ℕ) (n : ℕ) → Widened order n n order
unfolding ascending
widened_none order n = let e : n - n ≡ 0 = omega arith in rw e (sym (append-nil (take n order)))

pub widened_more :
    (order : List ℕ) (n k : ℕ) (now : List ℕ) →
    n ≤ k →
    k < length now →
    Widened order n k now →
    Widened order n (k + 1) (set now k k)
widened_more order n k now h l inv =
    let e : k + 1 - n ≡ suc (k - n) = omega arith in
    let f : n + (k - n) ≡ k = omega arith in
    rw (e, ascending_more n (k - n), f, add-one k, take-suc-set now k k l)
    (ap (λ (a : List ℕ). a ++ (k ∷ [])) inv ∙ append_assoc (take n order) (ascending n (k - n)) (k ∷ []))

pub widened_all :
    (order : List ℕ) (n k : ℕ) (now : List ℕ) →
    n ≤ slot_count →
    length order ≡ slot_count →
    length now ≡ slot_count →
    k ≡ slot_count →
    Widened order n k now →
    now ≡ widened (take n order)
unfolding widened
widened_all order n k now h l m e inv =
    let q : length (take n order) ≡ n = length-take-le n order (omega arith) in
    rw (q, ← e) (sym (take_all k now (omega arith)) ∙ inv)

-- ---- the ends of `cut_short`: k bytes from `at` on say that more follow
abbrev pub tail : List ℕ → ℕ → ℕ → Bool
tail s at k = leb 128 (get_or s (at + k) 0)

pub short_end : (s : List ℕ) (at : ℕ) → length s ≤ at → true ≡ cut_short s at
unfolding cut_short
short_end s at h =
    let e : length s - at ≡ 0 = omega arith in
    sym (rw (e, every_none (tail s at)))

pub short_ten : (s : List ℕ) (at : ℕ) → 10 ≤ length s - at → false ≡ cut_short s at
unfolding cut_short
short_ten s at h = rw (le-ltb (length s - at) 10 h)

pub short_last :
    (s : List ℕ) (at k : ℕ) →
    length s - at < 10 →
    k < length s - at →
    get_or s (at + k) 0 < 128 →
    false ≡ cut_short s at
unfolding cut_short
short_last s at k h l b =
    rw (lt-ltb (length s - at) 10 h) (sym (every_fails (tail s at) (length s - at) k l (lt-leb 128 (get_or s (at + k) 0) b)))

pub short_all :
    (s : List ℕ) (at : ℕ) →
    length s - at < 10 →
    every (length s - at) (tail s at) ≡ true →
    true ≡ cut_short s at
unfolding cut_short
short_all s at h e = rw (lt-ltb (length s - at) 10 h) (sym e)

-- ---- how many numbers a kind has: at most five, and none past the table
abbrev up_to : ℕ → List ℕ → Bool
up_to m [] = true
up_to m (x ∷ l) = leb x m && up_to m l

few : (m : ℕ) (l : List ℕ) → T (up_to m l) → (k : ℕ) → get_or l k 0 ≤ m
few m [] t k = omega arith
few m (x ∷ l) t zero = leb→le x m (and_yes (leb x m) (up_to m l) t).0
few m (x ∷ l) t (suc k) = few m l (and_yes (leb x m) (up_to m l) t).1 k

pub arity_most : (e : Edition) (kind : ℕ) → arity e kind ≤ number_most
unfolding arity arities
arity_most First kind = few number_most (arities First) tt kind
arity_most Second kind = few number_most (arities Second) tt kind
arity_most Third kind = few number_most (arities Third) tt kind

pub arity_connect : (e : Edition) (kind n : ℕ) → kind ≡ 1 → n ≡ connect_size e → n ≡ arity e kind
unfolding arity arities
arity_connect e kind n k h = rw k h

-- the editions differ in a connect alone
pub arity_other : (e : Edition) (kind : ℕ) → (kind ≡ 1 → ⊥) → get_or (arities First) kind 0 ≡ arity e kind
unfolding arity arities
arity_other e zero h = refl
arity_other e (suc zero) h = absurd (h refl)
arity_other e (suc (suc k)) h = refl

pub arity_past : (e : Edition) (kind : ℕ) → 14 ≤ kind → 0 ≡ arity e kind
unfolding arity arities
arity_past e kind h = sym (get_or-eq_default (arities e) 0 h)

pub as_arity : (e : Edition) (kind n : ℕ) → n ≡ arity e kind → (n ≡ arity e kind) × (n ≤ number_most)
as_arity e kind n h = (h, omega (arith, arity_most e kind))
