-- A slot of which nothing is counted: the unions of its cells are 0, so that each is.
-- Assumes nothing.
use Prim.Native.Nat.{ℕ, ◌+◌, ◌*◌, ◌/◌, ◌%◌, ◌^◌, ◌≤◌, ◌<◌}
use mathlib.Core.Path.{◌≡◌, refl, sym, ap, ◌∙◌}
use mathlib.Core.Bool.{Bool, true, false}
use mathlib.Core.List.{List}
use native.Mathlib.Omega.{arith}
use lib.ListN.{get_or}
use lib.Bits.{bit_or}
use lib.Dec.{ltb}
use Rattle.index.proofs.Flags.{by_order}
use Rattle.records.specs.declared.TopicRecord.{TopicRecord}
use Rattle.records.specs.Records.{topic_in, place, slot_count, topic_count}
use Rattle.layout.specs.View.{counters_at, stride, p3b_at, member_at, keep, used_of, live_at, bit_at, topic_raw, topic_at, state_of}
use Rattle.layout.specs.View.{Bare, Uncounted}
use Rattle.layout.proofs.DigitLaws.{or_digit}
use Rattle.layout.proofs.EndLaws.{or_none}
use Rattle.layout.proofs.ViewLaws.{topic_load}
use Rattle.layout.proofs.ReadLaws.{member_bit}

-- ---- the counters
module _ (c : List ℕ) (s : ℕ) where
  -- the cells of the first n topics are 0
  abbrev pub Counts : ℕ → Type 0
  Counts n = (t : ℕ) → t < n → (get_or c (counters_at + t * stride + s) 0 ≡ 0) × (get_or c (p3b_at + (s * 8 + t)) 0 ≡ 0)

  pub counts_more :
      (n acc : ℕ) →
      (acc ≡ 0 → Counts n) →
      bit_or (bit_or acc (get_or c (counters_at + n * stride + s) 0)) (get_or c (p3b_at + (s * 8 + n)) 0) ≡ 0 →
      Counts (n + 1)
  counts_more n acc f z t l =
      let a = or_none (bit_or acc (get_or c (counters_at + n * stride + s) 0)) (get_or c (p3b_at + (s * 8 + n)) 0) z in
      let b = or_none acc (get_or c (counters_at + n * stride + s) 0) a.0 in
      by_order ((get_or c (counters_at + t * stride + s) 0 ≡ 0) × (get_or c (p3b_at + (s * 8 + t)) 0 ≡ 0)) t n
      (λ (m : t < n). f b.0 t m)
      (λ (m : n ≤ t). let e : t ≡ n = omega arith in rw e (b.1, a.1))

  kept : (b : Bool) (x y : ℕ) → (x ≡ 0 → y ≡ 0) → keep b x ≡ 0 → keep b y ≡ 0
  kept true x y f e = f e
  kept false x y f e = refl

  pub counts_done : (acc r : ℕ) → r ≡ keep (ltb s (used_of c)) acc → (acc ≡ 0 → Counts 8) → r ≡ 0 → (t : ℕ) → t < topic_count →
      Uncounted c s t
  unfolding live_at
  counts_done acc r e f z t l = (
    kept (ltb s (used_of c)) acc (get_or c (counters_at + t * stride + s) 0) (λ q. (f q t l).0) (sym e ∙ z),
    kept (ltb s (used_of c)) acc (get_or c (p3b_at + (s * 8 + t)) 0) (λ q. (f q t l).1) (sym e ∙ z),
  )

-- ---- the members' words
module _ (c : List ℕ) (i : ℕ) where
  -- bit j of acc is 0 only where it is 0 in the first n topics
  abbrev pub Meshed : ℕ → ℕ → Type 0
  Meshed n acc = (j : ℕ) → acc / 2 ^ j % 2 ≡ 0 → (t : ℕ) → t < n → get_or c (member_at + t * 4 + i) 0 / 2 ^ j % 2 ≡ 0

  pub meshed_more : (n acc : ℕ) → Meshed n acc → Meshed (n + 1) (bit_or acc (get_or c (member_at + n * 4 + i) 0))
  meshed_more n acc f j z t l =
      let w = get_or c (member_at + n * 4 + i) 0 in
      let m = or_digit acc w j in
      let a : acc / 2 ^ j % 2 ≡ 0 = omega arith in
      let b : w / 2 ^ j % 2 ≡ 0 = omega arith in
      by_order (get_or c (member_at + t * 4 + i) 0 / 2 ^ j % 2 ≡ 0) t n
      (λ (k : t < n). f j a t k)
      (λ (k : n ≤ t). let e : t ≡ n = omega arith in rw e b)

-- ---- both
module _ (c : List ℕ) (s t : ℕ) (h : s < slot_count) (l : t < topic_count) where
  counters_none : live_at c s (counters_at + t * stride + s) ≡ 0 →
      live_at c (place s t / 8) (counters_at + place s t % 8 * stride + place s t / 8) ≡ 0
  counters_none z =
      let q : place s t / 8 ≡ s = omega arith in
      let m : place s t % 8 ≡ t = omega arith in
      rw (q, m) z

  p3b_none : live_at c s (p3b_at + (s * 8 + t)) ≡ 0 → live_at c (place s t / 8) (p3b_at + place s t) ≡ 0
  p3b_none z =
      let q : place s t / 8 ≡ s = omega arith in
      let m : place s t ≡ s * 8 + t = omega arith in
      rw (q, m) z

  none_raw : (x y a b g m : ℕ) → x ≡ 0 → y ≡ 0 → b ≡ 0 → Bare (topic_raw x y a b g m)
  unfolding topic_raw
  none_raw x y a b g m ex ey eb =
      record { p2 = rw ex; p3 = rw ex; p4 = rw ex; p3b = ey; member = eb }

  pub bare :
      Uncounted c s t →
      ((k : ℕ) → k < topic_count → get_or c (member_at + k * 4 + s / 64) 0 / 2 ^ (s % 64) % 2 ≡ 0) →
      Bare (topic_in (state_of c) (place s t))
  unfolding topic_at topic_raw bit_at
  bare u f =
      let e = topic_load c (place s t) (omega arith) in
      let b : (topic_at c (place s t)).member ≡ 0 = ap (λ (r : TopicRecord). r.member) e ∙ sym (member_bit c t s l h) ∙ f t l in
      let z = none_raw _ _ _ _ _ _ (counters_none u.0) (p3b_none u.1) b in
      rw (← e) z
