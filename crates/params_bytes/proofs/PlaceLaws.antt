-- How far reading and writing the parameters can go: no number that is read takes more than ten bytes, none that is written more than five,
-- and so the value that goes with an answer (a length, a place, an index) is small.
-- Assumes nothing.
use Rattle.std.proofs.Common.{Option, Some, None}
use Prim.Native.Nat.{ℕ, zero, suc, ◌+◌, ◌-◌, ◌*◌, ◌/◌, ◌^◌, ◌<◌, ◌≤◌}
use mathlib.Core.Path.{◌≡◌, refl, sym, ◌∙◌}
use mathlib.Core.List.{List, [], ◌∷◌}
use native.Mathlib.Omega.{arith}
use native.Mathlib.Nat.{pow-suc}
use lib.Dec.{ltb, leb, eqb}
use lib.ListN.{length, get_or}
use lib.IntN.{ℤ}
use Rattle.index.proofs.Flags.{by_test, by_order, cond_case, pair_of}
use Rattle.varint.specs.Groups.{read_at, after_more, last_group}
use Rattle.varint.specs.Codes.{number_of}
use Rattle.varint.proofs.GroupLaws.{read_at_end, last_is, more_is, after_small}
use Rattle.params.specs.declared.Edition.{Edition}
use Rattle.params.specs.declared.Params.{Params}
use Rattle.params.specs.Editions.{sheet}
use Rattle.params.specs.Check.{first_broken}
use Rattle.params.proofs.CheckLaws.{broken_most}
use Rattle.records.specs.Records.{param_count}
use Rattle.params_bytes.specs.Read.{Parse, numbers, malformed, then, step, parse_from, edition_at, edition_in, front_bytes, parse_at}
use Rattle.params_bytes.specs.Read.{ending}
use Rattle.params_bytes.specs.Read.{parse_all, judged_by, judged, read_of, verdict_value}
use Rattle.params_bytes.specs.Write.{room_for, write_by, write_of, written_value}
use Rattle.params_bytes.proofs.WriteLaws.{room_is, front_short}
use Rattle.params_bytes.proofs.RoundTrip.{form_most}

-- nothing is both
no : {P : Type 0} (u next : ℕ) → ◌≡◌ {A = Option (ℕ × ℕ)} None (Some (u, next)) → P
no u next e = let z : ◌≡◌ {A = ℕ} 0 1 = cc in absurd (omega arith)

-- the three ways in which a number begins
pub by_byte :
    (P : Type 0) (s : List ℕ) (at : ℕ) →
    (length s ≤ at → P) →
    (at < length s → get_or s at 0 < 128 → P) →
    (at < length s → 128 ≤ get_or s at 0 → P) →
    P
by_byte P s at end last more =
    by_order P at (length s) (λ i. by_order P (get_or s at 0) 128 (last i) (more i)) end

-- a number that is read, by its first byte
module _ (s : List ℕ) (top at : ℕ) (i : at < length s) where
  pub read_last : get_or s at 0 < 128 → read_at top s at ≡ last_group top (get_or s at 0) (at + 1)
  read_last b = sym (last_is top at (get_or s at 0) s (last_group top (get_or s at 0) (at + 1)) refl refl i b)

  pub read_more : 128 ≤ get_or s at 0 → read_at top s at ≡ after_more top (get_or s at 0) (read_at (top / 128) s (at + 1))
  read_more b =
      let q : (Option (ℕ × ℕ)) = read_at (top / 128) s (at + 1) in
      sym (more_is top at (get_or s at 0) s (after_more top (get_or s at 0) q) q refl refl refl i b)

-- ---- where a number ends: one below 128 ^ suc k takes at most suc k bytes
last_next : (top b at u next : ℕ) → last_group top b at ≡ Some (u, next) → next ≡ at
last_next top b at u next e =
    by_test
    (next ≡ at)
    (leb b top)
    (λ t. let f : Some (b, at) ≡ Some (u, next) = rw t at e in sym (pair_of f).1)
    (λ t. let f : None ≡ Some (u, next) = rw t at e in no u next f)

after_next :
    (top b to : ℕ) (r : Option (ℕ × ℕ)) (u next : ℕ) →
    ((v n : ℕ) → r ≡ Some (v, n) → n ≤ to) →
    after_more top b r ≡ Some (u, next) →
    next ≤ to
after_next top b to None u next h e = no u next e
after_next top b to (Some (v, n)) u next h e =
    by_test
    (next ≤ to)
    (eqb v 0)
    (λ t. let f : None ≡ Some (u, next) = rw t at e in no u next f)
    (λ t. by_test
    (next ≤ to)
    (leb (v * 128 + (b - 128)) top)
    (λ w.
    let f : Some (v * 128 + (b - 128), n) ≡ Some (u, next) = rw (t, w) at e in
    let g : n ≡ next = (pair_of f).1 in
    omega (arith, h v n refl))
    (λ w. let f : None ≡ Some (u, next) = rw (t, w) at e in no u next f))

module _ (s : List ℕ) where
  next_by :
      (k top at u next : ℕ) →
      read_at top s at ≡ Some (u, next) →
      (at < length s → 128 ≤ get_or s at 0 → next ≤ at + suc k) →
      next ≤ at + suc k
  next_by k top at u next e more =
      by_byte
      (next ≤ at + suc k)
      s
      at
      (λ o. no u next (sym (read_at_end top s at o) ∙ e))
      (λ i b.
      let f : next ≡ at + 1 = last_next top (get_or s at 0) (at + 1) u next (sym (read_last s top at i b) ∙ e) in
      omega arith)
      more

  pub next_near : (k top at u next : ℕ) → top < 128 ^ suc k → read_at top s at ≡ Some (u, next) → next ≤ at + suc k
  next_near zero top at u next h e =
      next_by
      zero
      top
      at
      u
      next
      e
      (λ i b.
      no
      u
      next
      (sym (after_small top (get_or s at 0) (read_at (top / 128) s (at + 1)) h) ∙ sym (read_more s top at i b) ∙ e))
  next_near (suc k) top at u next h e =
      next_by
      (suc k)
      top
      at
      u
      next
      e
      (λ i b.
      after_next
      top
      (get_or s at 0)
      (at + suc (suc k))
      (read_at (top / 128) s (at + 1))
      u
      next
      (λ v n q.
      let r : n ≤ at + 1 + suc k = next_near k (top / 128) (at + 1) v n (omega (arith, pow-suc 128 (suc k))) q in
      omega arith)
      (sym (read_more s top at i b) ∙ e))

-- ---- the place that n numbers come to
abbrev pub place_of : Parse → ℕ
place_of (numbers xs next) = next
place_of (malformed p) = p

then_place : (xs : List ℤ) (p : Parse) → place_of (then xs p) ≡ place_of p
then_place xs (numbers ys next) = refl
then_place xs (malformed p) = refl

step_place :
    (f : ℕ → Parse) (at : ℕ) (r : Option (ℕ × ℕ)) (to : ℕ) →
    at ≤ to →
    ((u next : ℕ) → r ≡ Some (u, next) → place_of (f next) ≤ to) →
    place_of (step f at r) ≤ to
step_place f at None to l h = l
step_place f at (Some (u, next)) to l h = omega (arith, then_place (number_of u ∷ []) (f next), h u next refl)

pub parse_place : (s : List ℕ) (n at : ℕ) → place_of (parse_from n s at) ≤ at + 10 * n
unfolding parse_from
parse_place s zero at = omega arith
parse_place s (suc n) at =
    let T : ℕ = 18446744073709551615 in
    step_place
    (λ next. parse_from n s next)
    at
    (read_at T s at)
    (at + 10 * suc n)
    (omega arith)
    (λ u next e. omega (arith, next_near s 9 T at u next (omega arith) e, parse_place s n next))

ending_place : (s : List ℕ) (p : Parse) → place_of (ending s p) ≡ place_of p
ending_place s (malformed p) = refl
ending_place s (numbers xs next) =
    cond_case (λ (q : Parse). place_of q ≡ next) (ltb next (length s)) (malformed next) (numbers xs next) (λ t. refl) (λ t. refl)

-- ---- the values of the answers
judged_value : (p : Params) (next : ℕ) (f : Option ℕ) → first_broken p ≡ f → next ≤ 1472 → verdict_value (judged_by f p next).verdict ≤ 1472
judged_value p next (Some i) e h = omega (arith, broken_most p i e)
judged_value p next None e h = h

parse_value : (e : Edition) (p : Parse) → place_of p ≤ 1472 → verdict_value (judged e p).verdict ≤ 1472
parse_value e (numbers xs next) h = judged_value (sheet e xs) next (first_broken (sheet e xs)) refl h
parse_value e (malformed p) h = h

-- the place that all numbers come to, behind the front
pub all_place : (s : List ℕ) (at : ℕ) → place_of (parse_at s at) ≤ at + 1472
unfolding parse_at
all_place s at =
    let front = length (front_bytes (edition_at s at)) in
    omega (arith, parse_place s param_count (at + front), front_short (edition_at s at))

pub read_most : (s : List ℕ) → verdict_value (read_of s).verdict ≤ 1472
unfolding read_of
read_most s = parse_value (edition_in s) (ending s (parse_all s)) (omega (arith, ending_place s (parse_all s), all_place s 0))

pub write_most : (p : Params) (buf : List ℕ) → length p.numbers ≡ param_count → written_value (write_of p buf).answer ≤ 737
unfolding write_of
write_most p buf l =
    by_test (written_value (write_of p buf).answer ≤ 737) (ltb (length buf) (room_for p.edition))
    (λ t. rw t (omega arith))
    (λ t. rw t (go (first_broken p) refl))
  where
    go : (f : Option ℕ) → first_broken p ≡ f → written_value (write_by f p buf).answer ≤ 737
    go (Some i) e = omega (arith, broken_most p i e)
    go None e = omega (arith, form_most p l e, room_is p.edition, front_short p.edition)
