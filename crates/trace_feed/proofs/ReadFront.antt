-- A number stays the same with any bytes behind those that are there, unless these end inside it: its last byte is there, or ten bytes that
-- say that more follow, and none of 64 bits has more. And where a number ends.
-- Assumes nothing.
use Rattle.std.proofs.Common.{Option, Some, None}
use Prim.{Unit, tt}
use Prim.Native.Nat.{ℕ, zero, suc, ◌+◌, ◌-◌, ◌/◌, ◌<◌, ◌≤◌}
use mathlib.Core.Path.{◌≡◌, refl, sym, ap, ap₂, ◌∙◌}
use mathlib.Core.Bool.{Bool, true, false, cond, ◌&&◌, false≢true}
use mathlib.Core.List.{List, [], ◌∷◌, ◌++◌}
use native.Mathlib.Omega.{arith}
use borrow.Author.Tests.{lt-ltb, le-ltb, ltb-true, lt-leb, leb-true, leb-false}
use lib.Dec.{leb, ltb}
use lib.ListN.{length, get_or, drop, length-append, length-drop, get_or-append}
use Rattle.index.specs.Index.{every}
use Rattle.index.proofs.Index.{both, every_at, every_fails}
use Rattle.index.proofs.Flags.{by_test, by_order, cond_case}
use Rattle.varint.specs.Groups.{Got, got, none, before, decode, up_to, as_read, read_at, after_more}
use Rattle.varint.proofs.GroupLaws.{read_at_end, read_at_last, read_at_more, after_small}
use Rattle.params_bytes.proofs.PlaceLaws.{next_near}
use Rattle.trace_events.specs.Reading.{cut_short}

-- the largest number of 64 bits
abbrev pub most : ℕ
most = 18446744073709551615

-- ---- a number whose last byte, k behind the first, is there
module _ (w r : List ℕ) where
  byte_same : (i : ℕ) → i < length w → get_or (w ++ r) i 0 ≡ get_or w i 0
  byte_same i h = get_or-append w r 0 i h

  longer : length w ≤ length (w ++ r)
  longer = omega (arith, length-append w r)

  last_same : (top at : ℕ) → at < length w → get_or w at 0 < 128 → read_at top (w ++ r) at ≡ read_at top w at
  last_same top at h b =
      let g = byte_same at h in
      let l = longer in
      read_at_last top (w ++ r) at (omega arith) (omega arith)
      ∙ ap (λ (x : ℕ). cond (leb x top) (Some (x, at + 1)) None) g
      ∙ sym (read_at_last top w at h b)

  more_same :
      (top at : ℕ) →
      at < length w →
      128 ≤ get_or w at 0 →
      read_at (top / 128) (w ++ r) (at + 1) ≡ read_at (top / 128) w (at + 1) →
      read_at top (w ++ r) at ≡ read_at top w at
  more_same top at h b e =
      let g = byte_same at h in
      let l = longer in
      read_at_more top (w ++ r) at (omega arith) (omega arith)
      ∙ ap₂ (after_more top) g e
      ∙ sym (read_at_more top w at h b)

  pub read_same : (k top at : ℕ) → at + k < length w → get_or w (at + k) 0 < 128 → read_at top (w ++ r) at ≡ read_at top w at
  read_same zero top at h b = let e : at + 0 ≡ at = omega arith in last_same top at (omega arith) (rw e at b)
  read_same (suc k) top at h b =
      let e : at + suc k ≡ at + 1 + k = omega arith in
      by_order (read_at top (w ++ r) at ≡ read_at top w at) (get_or w at 0) 128
      (λ c. last_same top at (omega arith) c)
      (λ c. more_same top at (omega arith) c (read_same k (top / 128) (at + 1) (omega arith) (rw e at b)))

-- ---- bytes that all say that more follow
module _ (s : List ℕ) where
  -- to the end: no number
  pub runs_out :
      (m top at : ℕ) →
      length s ≤ at + m →
      ((k : ℕ) → at + k < length s → 128 ≤ get_or s (at + k) 0) →
      read_at top s at ≡ None
  runs_out zero top at h f = read_at_end top s at (omega arith)
  runs_out (suc m) top at h f =
      by_order (read_at top s at ≡ None) at (length s)
      (λ i.
      let e : at + 0 ≡ at = omega arith in
      let b : 128 ≤ get_or s at 0 = rw e at (f 0 (omega arith)) in
      read_at_more top s at i b
      ∙ ap (after_more top (get_or s at 0))
      (runs_out m (top / 128) (at + 1) (omega arith)
      (λ k j. let q : at + suc k ≡ at + 1 + k = omega arith in rw q at (f (suc k) (omega arith)))))
      (λ o. read_at_end top s at o)

  -- what is left of a number after k bytes
  abbrev left : ℕ → ℕ → ℕ
  left zero top = top
  left (suc k) top = left k (top / 128)

  -- more of them than a number has: no number
  too_long :
      (k top at : ℕ) →
      at + k < length s →
      ((i : ℕ) → i ≤ k → 128 ≤ get_or s (at + i) 0) →
      left k top < 128 →
      read_at top s at ≡ None
  too_long zero top at h f l =
      let e : at + 0 ≡ at = omega arith in
      read_at_more top s at (omega arith) (rw e at (f 0 (omega arith))) ∙ after_small top (get_or s at 0) (read_at (top / 128) s (at + 1)) l
  too_long (suc k) top at h f l =
      let e : at + 0 ≡ at = omega arith in
      read_at_more top s at (omega arith) (rw e at (f 0 (omega arith)))
      ∙ ap (after_more top (get_or s at 0))
      (too_long k (top / 128) (at + 1) (omega arith)
      (λ i j. let q : at + suc i ≡ at + 1 + i = omega arith in rw q at (f (suc i) (omega arith)))
      l)

  pub ten_bad : (at : ℕ) → at + 9 < length s → ((i : ℕ) → i ≤ 9 → 128 ≤ get_or s (at + i) 0) → read_at most s at ≡ None
  ten_bad at h f = let q : left 9 most ≡ 1 = refl in too_long 9 most at h f (omega arith)

-- a test that fails somewhere
fails_at : (n : ℕ) (f : ℕ → Bool) → every n f ≡ false → (k : ℕ) × (k < n) × (f k ≡ false)
unfolding every
fails_at zero f e = absurd (false≢true (sym e))
fails_at (suc n) f e =
    by_test ((k : ℕ) × (k < suc n) × (f k ≡ false)) (f n)
    (λ t.
    let q : every n f ≡ false = and_first (every n f) (f n) t e in
    let g = fails_at n f q in
    (g.0, omega (arith, g.1), g.2))
    (λ t. (n, omega arith, t))
  where
    and_first : (a b : Bool) → b ≡ true → a && b ≡ false → a ≡ false
    and_first true b t q = absurd (false≢true (sym q ∙ t))
    and_first false b t q = refl

-- ---- the bytes that are there do not end inside the number at a place
abbrev goes_on : List ℕ → ℕ → ℕ → Bool
goes_on s at k = leb 128 (get_or s (at + k) 0)

module _ (w : List ℕ) (at : ℕ) where
  -- a byte that is the number's last, or ten that are not
  whole_by :
      (P : Type 0) →
      cut_short w at ≡ false →
      ((k : ℕ) → at + k < length w → get_or w (at + k) 0 < 128 → P) →
      (at + 9 < length w → ((i : ℕ) → i ≤ 9 → 128 ≤ get_or w (at + i) 0) → P) →
      P
  unfolding cut_short
  whole_by P e last long =
      by_order P (length w - at) 10
      (λ h.
      let n : every (length w - at) (goes_on w at) ≡ false = rw (lt-ltb (length w - at) 10 h) at e in
      let g = fails_at (length w - at) (goes_on w at) n in
      last g.0 (omega (arith, g.1)) (leb-false 128 (get_or w (at + g.0) 0) g.2))
      (λ h.
      by_test P (every 10 (goes_on w at))
      (λ t. long (omega arith) (λ i j. leb-true 128 (get_or w (at + i) 0) (every_at (goes_on w at) 10 i t (omega arith))))
      (λ t.
      let g = fails_at 10 (goes_on w at) t in
      last g.0 (omega (arith, g.1)) (leb-false 128 (get_or w (at + g.0) 0) g.2)))

  -- they do: there are fewer than ten, and no number
  module _ (e : cut_short w at ≡ true) where
    pub cut_few : length w < at + 10
    unfolding cut_short
    cut_few =
        let h = ltb-true (length w - at) 10 (both (ltb (length w - at) 10) (every (length w - at) (goes_on w at)) e).0 in
        omega arith

    pub cut_bad : (top : ℕ) → read_at top w at ≡ None
    unfolding cut_short
    cut_bad top =
        let a = (both (ltb (length w - at) 10) (every (length w - at) (goes_on w at)) e).1 in
        runs_out w (length w) top at (omega arith)
        (λ k h. leb-true 128 (get_or w (at + k) 0) (every_at (goes_on w at) (length w - at) k a (omega arith)))

  module _ (r : List ℕ) (e : cut_short w at ≡ false) where
    pub read_stays : read_at most (w ++ r) at ≡ read_at most w at
    read_stays =
        whole_by (read_at most (w ++ r) at ≡ read_at most w at) e
        (λ k h b. read_same w r k most at h b)
        (λ h f.
        let l = longer w r in
        ten_bad (w ++ r) at (omega arith) (λ i j. let g = byte_same w r (at + i) (omega arith) in let d = f i j in omega arith)
        ∙ sym (ten_bad w at h f))

    pub cut_stays : cut_short (w ++ r) at ≡ false
    unfolding cut_short
    cut_stays =
        let l = longer w r in
        by_order (cut_short (w ++ r) at ≡ false) (length (w ++ r) - at) 10
        (λ h.
        whole_by (cut_short (w ++ r) at ≡ false) e
        (λ k i b.
        let g = byte_same w r (at + k) i in
        rw (lt-ltb (length (w ++ r) - at) 10 h)
        (every_fails (goes_on (w ++ r) at) (length (w ++ r) - at) k (omega arith) (lt-leb 128 (get_or (w ++ r) (at + k) 0) (omega arith))))
        (λ i f. absurd (omega arith)))
        (λ h. rw (le-ltb (length (w ++ r) - at) 10 h))

-- ---- where a number ends: within the bytes, and ten behind its place at most
abbrev Fits : List ℕ → Got → Type 0
Fits s none = Unit {0}
Fits s (got v n) = n ≤ length s

before_fits : (b : ℕ) (s : List ℕ) (g : Got) → Fits s g → Fits (b ∷ s) (before b g)
before_fits b s none f = tt
before_fits b s (got zero n) f = tt
before_fits b s (got (suc v) n) f = omega arith

decode_fits : (s : List ℕ) → Fits s (decode s)
unfolding decode
decode_fits [] = tt
decode_fits (b ∷ s) =
    cond_case (Fits (b ∷ s)) (ltb b 128) (got b 1) (before b (decode s)) (λ e. omega arith)
    (λ e. before_fits b s (decode s) (decode_fits s))

abbrev Within : ℕ → Option (ℕ × ℕ) → Type 0
Within n None = Unit {0}
Within n (Some (u, next)) = next ≤ n

got_within : (top at : ℕ) (s : List ℕ) (g : Got) → at < length s → Fits (drop at s) g → Within (length s) (as_read at (up_to top g))
got_within top at s none h f = tt
got_within top at s (got v n) h f =
    cond_case (λ (g : Got). Within (length s) (as_read at g)) (leb v top) (got v n) none (λ e. omega (arith, length-drop at s)) (λ e. tt)

read_fits : (top : ℕ) (s : List ℕ) (at : ℕ) → Within (length s) (read_at top s at)
unfolding read_at
read_fits top s at =
    by_order (Within (length s) (read_at top s at)) at (length s)
    (λ h. got_within top at s (decode (drop at s)) h (decode_fits (drop at s)))
    (λ h. rw (read_at_end top s at h) tt)

module _ (s : List ℕ) (at u next : ℕ) (e : read_at most s at ≡ Some (u, next)) where
  pub read_within : next ≤ length s
  read_within = rw e at (read_fits most s at)

  pub read_near : next ≤ at + 10
  read_near = next_near s 9 most at u next (omega arith) e
