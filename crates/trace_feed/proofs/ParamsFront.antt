-- The parameters stay the same with any bytes behind those that are there, unless these end inside a number; where they end, and how many
-- bytes can be there of parameters that are not whole; and the front before them.
-- Assumes nothing.
use Rattle.std.proofs.Common.{Option, Some, None, Result, Ok, Err}
use Rattle.params_bytes.specs.declared.ReadError.{ReadError}
use Rattle.params_bytes.specs.declared.ReadError.TheVariants.{Broken, Malformed}
use Prim.{Unit, tt}
use Prim.Native.Nat.{ℕ, zero, suc, ◌+◌, ◌-◌, ◌<◌, ◌≤◌}
use mathlib.Core.Path.{◌≡◌, refl, sym, ap, ap₂, ◌∙◌}
use mathlib.Core.Bool.{true, false, ◌&&◌, false≢true}
use mathlib.Core.List.{List, [], ◌∷◌, ◌++◌}
use native.Mathlib.Omega.{arith}
use lib.IntN.{ℤ}
use borrow.Author.Tests.{le-leb}
use lib.Dec.{eqb}
use lib.ListN.{length, get_or, get_or-append}
use Rattle.index.specs.Index.{every}
use Rattle.index.proofs.Flags.{by_test, by_order, cond_case}
use Rattle.varint.specs.Groups.{read_at}
use Rattle.varint.proofs.GroupLaws.{read_at_last}
use Rattle.varint.specs.Codes.{number_of}
use Rattle.params.specs.Check.{first_broken}
use Rattle.params.specs.declared.Edition.{Edition}
use Rattle.params.specs.declared.Params.{Params}
use Rattle.params.specs.Editions.{sheet}
use Rattle.params_bytes.specs.Read.{Parse, numbers, malformed, then, step, parse_from, judged_by, judged, front_at}
use Rattle.params_bytes.specs.Read.{edition_at, front_bytes, parse_at}
use Rattle.params_bytes.proofs.ReadLaws.{edition_short}
use Rattle.params_bytes.proofs.WriteLaws.{front_short}
use Rattle.params_bytes.proofs.PlaceLaws.{place_of, all_place}
use Rattle.trace_events.specs.Reading.{cut_short}
use Rattle.records.specs.Records.{param_count}
use Rattle.trace_events.specs.declared.Edition.{Edition as TraceEdition}
use Rattle.trace_events.specs.declared.Edition.TheVariants.{First, Second, Third}
use Rattle.trace_feed.specs.declared.FrontError.{FrontError}
use Rattle.trace_feed.specs.declared.FrontError.TheVariants.{Other, Cut}
use Rattle.trace_feed.specs.Front.{third_in, front_in}
use Rattle.trace_feed.proofs.ReadFront.{most, cut_bad, read_stays, read_within}

-- the bytes do not end inside the first number that cannot be read
abbrev Whole : List ℕ → Parse → Type 0
Whole w (numbers xs next) = Unit {0}
Whole w (malformed p) = cut_short w p ≡ false

then_whole : (w : List ℕ) (xs : List ℤ) (p : Parse) → Whole w (then xs p) → Whole w p
then_whole w xs (numbers ys next) h = tt
then_whole w xs (malformed p) h = h

step_stays :
    (w : List ℕ) (at : ℕ) (f g : ℕ → Parse) (q : Option (ℕ × ℕ)) →
    ((next : ℕ) → Whole w (g next) → f next ≡ g next) →
    Whole w (step g at q) →
    step f at q ≡ step g at q
step_stays w at f g None same h = refl
step_stays w at f g (Some (u, next)) same h =
    ap (then (number_of u ∷ [])) (same next (then_whole w (number_of u ∷ []) (g next) h))

parse_stays : (w r : List ℕ) (n at : ℕ) → Whole w (parse_from n w at) → parse_from n (w ++ r) at ≡ parse_from n w at
unfolding parse_from
parse_stays w r zero at h = refl
parse_stays w r (suc n) at h =
    by_test (parse_from (suc n) (w ++ r) at ≡ parse_from (suc n) w at) (cut_short w at)
    (λ t. let e = cut_bad w at t most in let f : cut_short w at ≡ false = rw e at h in absurd (false≢true (sym f ∙ t)))
    (λ t.
    rw (read_stays w at r t)
    (step_stays w at (λ next. parse_from n (w ++ r) next) (λ next. parse_from n w next) (read_at most w at) (λ next. parse_stays w r n next)
    h))

-- where they end
abbrev Ends : ℕ → Parse → Type 0
Ends len (numbers xs next) = next ≤ len
Ends len (malformed p) = Unit {0}

then_ends : (len : ℕ) (xs : List ℤ) (p : Parse) → Ends len p → Ends len (then xs p)
then_ends len xs (numbers ys next) h = h
then_ends len xs (malformed p) h = tt

step_ends :
    (s : List ℕ) (at : ℕ) (f : ℕ → Parse) (q : Option (ℕ × ℕ)) →
    read_at most s at ≡ q →
    ((next : ℕ) → next ≤ length s → Ends (length s) (f next)) →
    Ends (length s) (step f at q)
step_ends s at f None e g = tt
step_ends s at f (Some (u, next)) e g = then_ends (length s) (number_of u ∷ []) (f next) (g next (read_within s at u next e))

parse_ends : (s : List ℕ) (n at : ℕ) → at ≤ length s → Ends (length s) (parse_from n s at)
unfolding parse_from
parse_ends s zero at h = h
parse_ends s (suc n) at h = step_ends s at (λ next. parse_from n s next) (read_at most s at) refl (λ next i. parse_ends s n next i)

-- ---- the edition: bytes that end before the second end inside a number
at_end : (w : List ℕ) (at : ℕ) → length w ≤ at → cut_short w at ≡ true
unfolding cut_short every
at_end w at h = let e : length w - at ≡ 0 = omega arith in rw e

open_first : (w : List ℕ) (at : ℕ) → length w ≡ at + 1 → 128 ≤ get_or w at 0 → cut_short w at ≡ true
unfolding cut_short every
open_first w at l b =
    let e : length w - at ≡ 1 = omega arith in
    let z : at + 0 ≡ at = omega arith in
    rw (e, z, le-leb 128 (get_or w at 0) b)

ends_open : (w : List ℕ) (n at : ℕ) → cut_short w at ≡ true → Whole w (parse_from (suc n) w at) → ⊥
unfolding parse_from
ends_open w n at t h =
    let e = cut_bad w at t most in
    let f : cut_short w at ≡ false = rw e at h in
    false≢true (sym f ∙ t)

one_byte : (w : List ℕ) (n at : ℕ) → length w ≡ at + 1 → Whole w (parse_from (suc (suc n)) w at) → ⊥
unfolding parse_from
one_byte w n at l h =
    by_order ⊥ (get_or w at 0) 128
    (λ b. ends_open w n (at + 1) (at_end w (at + 1) (omega arith)) (after b))
    (λ b. ends_open w (suc n) at (open_first w at l b) h)
  where
    after : get_or w at 0 < 128 → Whole w (parse_from (suc n) w (at + 1))
    after b =
        let q : read_at most w at ≡ Some (get_or w at 0, at + 1) =
        read_at_last most w at (omega arith) b ∙ rw (le-leb (get_or w at 0) most (omega arith)) in
        then_whole w (number_of (get_or w at 0) ∷ []) (parse_from (suc n) w (at + 1)) (rw q at h)

-- without a second byte the edition is the first
short_edition : (w : List ℕ) (at : ℕ) → length w ≤ at + 1 → parse_at w at ≡ parse_from param_count w at
unfolding parse_at
short_edition w at l =
    let z : at + 0 ≡ at = omega arith in
    ap (λ (e : Edition). parse_from param_count w (at + length (front_bytes e))) (sym (edition_short w at l))
    ∙ ap (parse_from param_count w) z

short_open : (w : List ℕ) (at : ℕ) → at ≤ length w → length w ≤ at + 1 → Whole w (parse_at w at) → ⊥
short_open w at m l h =
    let g : Whole w (parse_from param_count w at) = rw (short_edition w at l) at h in
    by_order ⊥ at (length w)
    (λ i. one_byte w 145 at (omega arith) g)
    (λ i. ends_open w 146 at (at_end w at i) g)

module _ (w r : List ℕ) (at : ℕ) (m : at ≤ length w) where
  edition_stays : Whole w (parse_at w at) → edition_at (w ++ r) at ≡ edition_at w at
  unfolding edition_at
  edition_stays h =
      by_order (edition_at (w ++ r) at ≡ edition_at w at) (at + 1) (length w)
      (λ l. rw (get_or-append w r 0 at (omega arith), get_or-append w r 0 (at + 1) l))
      (λ l. absurd (short_open w at m l h))

  all_stays : Whole w (parse_at w at) → parse_at (w ++ r) at ≡ parse_at w at
  unfolding parse_at
  all_stays h =
      ap (λ (e : Edition). parse_from param_count (w ++ r) (at + length (front_bytes e))) (edition_stays h)
      ∙ parse_stays w r param_count (at + length (front_bytes (edition_at w at))) h

-- ---- the verdict
abbrev pub Kept : List ℕ → Result ℕ ReadError → Type 0
Kept w (Ok next) = Unit {0}
Kept w (Err (Malformed p)) = cut_short w p ≡ false
Kept w (Err (Broken i)) = Unit {0}

judged_whole : (w : List ℕ) (e : Edition) (p : Parse) → Kept w (judged e p).verdict → Whole w p
judged_whole w e (numbers xs next) h = tt
judged_whole w e (malformed p) h = h

kept_whole : (w : List ℕ) (at : ℕ) → Kept w (front_at w at).verdict → Whole w (parse_at w at)
unfolding front_at
kept_whole w at h = judged_whole w (edition_at w at) (parse_at w at) h

pub front_stays : (w r : List ℕ) (at : ℕ) → at ≤ length w → Kept w (front_at w at).verdict → front_at (w ++ r) at ≡ front_at w at
unfolding front_at
front_stays w r at m h =
    let g = judged_whole w (edition_at w at) (parse_at w at) h in
    ap₂ judged (edition_stays w r at m g) (all_stays w r at m g)

-- what is accepted passes, and ends within the bytes; what is malformed is so within 1,472 bytes
abbrev pub Verdicts : ℕ → ℕ → Option ℕ → Result ℕ ReadError → Type 0
Verdicts at len f (Ok next) = (f ≡ None) × (next ≤ len)
Verdicts at len f (Err (Malformed p)) = p ≤ at + 1472
Verdicts at len f (Err (Broken i)) = Unit {0}

judged_by_lem :
    (at len : ℕ) (p : Params) (next : ℕ) (f : Option ℕ) →
    first_broken p ≡ f →
    next ≤ len →
    Verdicts at len (first_broken (judged_by f p next).params) (judged_by f p next).verdict
judged_by_lem at len p next (Some i) e h = tt
judged_by_lem at len p next None e h = (e, h)

judged_is :
    (at len : ℕ) (e : Edition) (p : Parse) →
    Ends len p →
    place_of p ≤ at + 1472 →
    Verdicts at len (first_broken (judged e p).params) (judged e p).verdict
judged_is at len e (numbers xs next) h l = judged_by_lem at len (sheet e xs) next (first_broken (sheet e xs)) refl h
judged_is at len e (malformed p) h l = l

-- the front is there: the second byte of an edition 2 is 2, which no list has past its end
front_within : (s : List ℕ) (at : ℕ) → at ≤ length s → at + length (front_bytes (edition_at s at)) ≤ length s
front_within s at m =
    by_order (at + length (front_bytes (edition_at s at)) ≤ length s) (at + 1) (length s)
    (λ l. omega (arith, front_short (edition_at s at)))
    (λ l. let e = sym (edition_short s at l) in rw e (omega arith))

all_ends : (s : List ℕ) (at : ℕ) → at ≤ length s → Ends (length s) (parse_at s at)
unfolding parse_at
all_ends s at m = parse_ends s param_count (at + length (front_bytes (edition_at s at))) (front_within s at m)

pub front_is :
    (s : List ℕ) (at : ℕ) → at ≤ length s → Verdicts at (length s) (first_broken (front_at s at).params) (front_at s at).verdict
unfolding front_at
front_is s at m =
    judged_is at (length s) (edition_at s at) (parse_at s at) (all_ends s at m) (all_place s at)

-- ---- the front of a trace
-- it lies within the bytes
abbrev pub Near : List ℕ → Result (TraceEdition × ℕ) FrontError → Type 0
Near s (Ok (e, at)) = (at ≤ 3) × (at ≤ length s)
Near s (Err Other) = Unit {0}
Near s (Err Cut) = length s ≤ 2

third_near : (a b : ℕ) (s : List ℕ) → Near (a ∷ (b ∷ s)) (third_in s)
third_near a b [] = omega arith
third_near a b (c ∷ s) =
    cond_case (Near (a ∷ (b ∷ (c ∷ s)))) (eqb c 2) (Ok (Second, 3)) _
    (λ e. (omega arith, omega arith))
    (λ e.
    cond_case (Near (a ∷ (b ∷ (c ∷ s)))) (eqb c 3) (Ok (Third, 3)) (Err Other) (λ f. (omega arith, omega arith)) (λ f. tt))

pub front_near : (s : List ℕ) → Near s (front_in s)
unfolding front_in
front_near [] = (omega arith, omega arith)
front_near (a ∷ []) = (omega arith, omega arith)
front_near (a ∷ (b ∷ s)) =
    cond_case (Near (a ∷ (b ∷ s))) (eqb a 0 && eqb b 0) (third_in s) (Ok (First, 0))
    (λ e. third_near a b s)
    (λ e. (omega arith, omega arith))

-- whether it stays the same with any bytes behind those that are there
abbrev pub Told : List ℕ → Result (TraceEdition × ℕ) FrontError → Type 0
Told w (Ok (e, at)) = Kept w (front_at w at).verdict
Told w (Err Other) = Unit {0}
Told w (Err Cut) = ⊥

third_stays : (w r s : List ℕ) → Told w (third_in s) → third_in (s ++ r) ≡ third_in s
third_stays w r [] h = absurd h
third_stays w r (c ∷ s) h = refl

pub trace_stays : (w r : List ℕ) → Told w (front_in w) → front_in (w ++ r) ≡ front_in w
unfolding front_in
trace_stays [] r h = absurd (short_open [] 0 (omega arith) (omega arith) (kept_whole [] 0 h))
trace_stays (a ∷ []) r h = absurd (short_open (a ∷ []) 0 (omega arith) (omega arith) (kept_whole (a ∷ []) 0 h))
trace_stays (a ∷ (b ∷ s)) r h =
    by_test (front_in ((a ∷ (b ∷ s)) ++ r) ≡ front_in (a ∷ (b ∷ s))) (eqb a 0 && eqb b 0)
    (λ t. rw t (third_stays (a ∷ (b ∷ s)) r s (rw t at h)))
    (λ t. rw t)
