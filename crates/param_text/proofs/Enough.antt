-- The first 4,096 bytes decide what reading the parameters comes to, however many follow: no number that is read takes more than ten bytes.
-- Assumes nothing.
use Rattle.std.proofs.Common.{Option, Some, None}
use Rattle.index.proofs.Kit.{ℕ, ◌+◌, ◌*◌, ◌<◌, ◌≤◌, ◌≡◌, refl, sym, ap, ◌∙◌, Bool, arith, by_order}
use Prim.Native.Nat.{zero, suc, ◌/◌, ◌^◌}
use mathlib.Core.Path.{ap₂}
use mathlib.Core.Bool.{cond}
use mathlib.Core.List.{List, [], ◌∷◌}
use native.Mathlib.Nat.{pow-suc}
use borrow.Author.Tests.{lt-ltb, le-ltb}
use lib.Dec.{ltb, lit<}
use lib.ListN.{length, take, get_or, length-take}
use lib.Seq.{get_or-take}
use Rattle.varint.specs.Groups.{read_at, after_more}
use Rattle.varint.specs.Codes.{number_of}
use Rattle.varint.proofs.GroupLaws.{read_at_end, after_small}
use Rattle.params.specs.declared.Edition.{Edition}
use Rattle.records.specs.Records.{param_count}
use Rattle.params_bytes.specs.Read.{Parse, numbers, malformed, then, step, parse_from, edition_at, edition_in, front_bytes, parse_at}
use Rattle.params_bytes.specs.Read.{parse_all, ending, judged, read_of}
use Rattle.params_bytes.proofs.PlaceLaws.{by_byte, read_last, read_more, next_near, place_of, all_place}
use Rattle.params_bytes.proofs.WriteLaws.{front_short}

-- ---- a number below 128 ^ suc k takes at most suc k bytes, so what stands m bytes or more from the front does not matter
module _ (s : List ℕ) (m : ℕ) where
  inside : (at : ℕ) → at < length s → at < m → at < length (take m s)
  inside at i l = simp length-take (omega arith)

  near_by :
      (top at : ℕ) → at < m →
      (at < length s → 128 ≤ get_or s at 0 → after_more top (get_or s at 0) (read_at (top / 128) (take m s) (at + 1))
      ≡ after_more top (get_or s at 0) (read_at (top / 128) s (at + 1))) →
      read_at top (take m s) at ≡ read_at top s at
  near_by top at l more =
      by_byte
      (read_at top (take m s) at ≡ read_at top s at)
      s
      at
      (λ o. read_at_end top (take m s) at (simp length-take (omega arith)) ∙ sym (read_at_end top s at o))
      (λ i b.
      let e : get_or (take m s) at 0 ≡ get_or s at 0 = get_or-take m s at 0 l in
      let b' : get_or (take m s) at 0 < 128 = omega arith in
      read_last (take m s) top at (inside at i l) b' ∙ rw e (sym (read_last s top at i b)))
      (λ i b.
      let e : get_or (take m s) at 0 ≡ get_or s at 0 = get_or-take m s at 0 l in
      let b' : 128 ≤ get_or (take m s) at 0 = omega arith in
      read_more (take m s) top at (inside at i l) b' ∙ rw e (more i b ∙ sym (read_more s top at i b)))

  near : (k top at : ℕ) → top < 128 ^ suc k → at + suc k ≤ m → read_at top (take m s) at ≡ read_at top s at
  near zero top at h l =
      near_by top at (omega arith) (λ i b.
      after_small top (get_or s at 0) (read_at (top / 128) (take m s) (at + 1)) h
      ∙ sym (after_small top (get_or s at 0) (read_at (top / 128) s (at + 1)) h))
  near (suc k) top at h l =
      near_by
      top
      at
      (omega arith)
      (λ i b.
      ap
      (λ (q : Option (ℕ × ℕ)). after_more top (get_or s at 0) q)
      (near k (top / 128) (at + 1) (omega (arith, pow-suc 128 (suc k))) (omega arith)))

-- ---- n numbers
step_same : (f g : ℕ → Parse) (at : ℕ) (r : Option (ℕ × ℕ)) → ((u next : ℕ) → r ≡ Some (u, next) → f next ≡ g next) → step f at r ≡ step g at r
step_same f g at None h = refl
step_same f g at (Some (u, next)) h = ap (λ (p : Parse). then (number_of u ∷ []) p) (h u next refl)

parse_near : (s : List ℕ) (m n at : ℕ) → at + 10 * n ≤ m → parse_from n (take m s) at ≡ parse_from n s at
unfolding parse_from
parse_near s m zero at l = refl
parse_near s m (suc n) at l =
    let T : ℕ = 18446744073709551615 in
    rw (near s m 9 T at (omega arith) (omega arith))
    (step_same
    (λ next. parse_from n (take m s) next)
    (λ next. parse_from n s next)
    at
    (read_at T s at)
    (λ u next e. parse_near s m n next (omega (arith, next_near s 9 T at u next (omega arith) e))))

-- ---- the whole: nothing that is left over is hidden
ending_near : (s : List ℕ) (m : ℕ) (p : Parse) → place_of p < m → ending (take m s) p ≡ ending s p
ending_near s m (malformed p) l = refl
ending_near s m (numbers xs next) l = ap (λ (b : Bool). cond b (malformed next) (numbers xs next)) same
  where
    same : ltb next (length (take m s)) ≡ ltb next (length s)
    same =
        by_order (ltb next (length (take m s)) ≡ ltb next (length s)) next (length s)
        (λ i. lt-ltb next (length (take m s)) (simp length-take (omega arith)) ∙ sym (lt-ltb next (length s) i))
        (λ o. le-ltb next (length (take m s)) (simp length-take (omega arith)) ∙ sym (le-ltb next (length s) o))

edition_near : (s : List ℕ) → edition_in (take 4096 s) ≡ edition_in s
unfolding edition_at
edition_near s = rw (get_or-take 4096 s 0 0 (lit< tt), get_or-take 4096 s 1 0 (lit< tt))

all_near : (s : List ℕ) → parse_all (take 4096 s) ≡ parse_all s
unfolding parse_at
all_near s =
    ap (λ (e : Edition). parse_from param_count (take 4096 s) (0 + length (front_bytes e))) (edition_near s)
    ∙ parse_near s 4096 param_count (0 + length (front_bytes (edition_in s))) (omega (arith, front_short (edition_in s)))

pub enough : (s : List ℕ) → read_of (take 4096 s) ≡ read_of s
unfolding read_of
enough s =
    ap₂ judged (edition_near s)
    (ap (λ (p : Parse). ending (take 4096 s) p) (all_near s) ∙ ending_near s 4096 (parse_all s) (omega (arith, all_place s 0)))
