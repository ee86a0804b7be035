-- Lanes compared all at once: every second lane of a cell is taken from that of the limits, which stands with one more bit above it. So
-- nothing is borrowed from a neighbour, and a bit that is left says that the lane is within its limit.
-- Assumes nothing.
use Prim.Native.Nat.{ℕ, zero, suc, ◌+◌, ◌*◌, ◌-◌, ◌/◌, ◌%◌, ◌^◌, ◌≤◌, ◌<◌}
use mathlib.Core.Path.{◌≡◌, sym, ap, ◌∙◌}
use mathlib.Core.Bool.{Bool, true, cond}
use native.Mathlib.Nat.{not-suc-le-zero, le_of_suc-le-suc}
use native.Mathlib.Omega.{arith}
use lib.ListN.{length, get_or, set}
use lib.Seq.{get_or-set_same, get_or-set_other}
use borrow.Author.Count.{below_more}
use mathlib.Core.List.{List}
use lib.Bits.{bit_and, and_le_r, and_mask, and_high, and_block}
use lib.Pow.{pow_mono, pow-add, shr-shr}
use borrow.Author.Tests.{le-leb}
use lib.Dec.{leb}
use Rattle.index.proofs.Index.{every_by}
use Rattle.index.proofs.Flags.{by_order}
use Rattle.records.specs.Records.{slot_count}
use Rattle.replies.specs.View.{lane_in}
use Rattle.replies.specs.Asked.{lane_fits, cell_fits, Limit, Allows, Under, EvenUnder}
use Rattle.replies.proofs.TestLaws.{or_left, or_also}

-- ---- every second lane

unfoldable pub evens : ℕ → ℕ
evens zero = 0
evens (suc n) = evens n * 4096 + 63

-- the bit above each
unfoldable pub guards : ℕ → ℕ
guards zero = 0
guards (suc n) = guards n * 4096 + 64

module _ (n x : ℕ) where
  whole : x ≡ x / 4096 * 4096 + x % 4096
  whole = omega arith

  and_evens : bit_and x (evens (suc n)) ≡ bit_and (x / 4096) (evens n) * 4096 + x % 64
  unfolding evens
  and_evens =
      let m : bit_and (x % 4096) 63 ≡ x % 4096 % 64 = and_mask (x % 4096) 6 in
      let e : x % 4096 % 64 ≡ x % 64 = omega arith in
      ap (λ (y : ℕ). bit_and y (evens (suc n))) whole
      ∙ and_block 12 (x / 4096) (evens n) (x % 4096) 63 (omega arith) (omega arith)
      ∙ ap (λ (y : ℕ). bit_and (x / 4096) (evens n) * 4096 + y) (m ∙ e)

  and_guards : bit_and x (guards (suc n)) ≡ bit_and (x / 4096) (guards n) * 4096 + x % 4096 / 64 % 2 * 64
  unfolding guards
  and_guards =
      let m : bit_and (x % 4096) 64 ≡ x % 4096 / 64 % 2 * 64 = and_high (x % 4096) 1 6 in
      ap (λ (y : ℕ). bit_and y (guards (suc n))) whole
      ∙ and_block 12 (x / 4096) (guards n) (x % 4096) 64 (omega arith) (omega arith)
      ∙ ap (λ (y : ℕ). bit_and (x / 4096) (guards n) * 4096 + y) m

evens_guards : (n : ℕ) → evens n ≤ guards n
unfolding evens guards
evens_guards zero = omega arith
evens_guards (suc n) = let h = evens_guards n in omega arith

pub even_low : (n x : ℕ) → bit_and x (evens n) ≤ guards n
even_low n x = let h = and_le_r x (evens n) in let g = evens_guards n in omega arith

-- the lanes of a number over the lowest two
lane_up : (x i : ℕ) → lane_in x (2 * suc i) ≡ lane_in (x / 4096) (2 * i)
unfolding lane_in
lane_up x i =
    let e : 6 * (2 * suc i) ≡ 12 + 6 * (2 * i) = omega arith in
    ap (λ (k : ℕ). x / 2 ^ k % 64) e ∙ ap (λ (m : ℕ). m % 64) (sym (shr-shr x 12 (6 * (2 * i))))

lane_first : (x : ℕ) → lane_in x (2 * 0) ≡ x % 64
unfolding lane_in
lane_first x = omega arith

module _
    (n x l : ℕ)
    (h : bit_and (bit_and l (evens (suc n)) + guards (suc n) - bit_and x (evens (suc n))) (guards (suc n)) ≡ guards (suc n)) where
  abbrev e : ℕ
  e = bit_and l (evens (suc n)) + guards (suc n) - bit_and x (evens (suc n))

  abbrev d : ℕ
  d = bit_and (l / 4096) (evens n) + guards n - bit_and (x / 4096) (evens n)

  e_is : e ≡ d * 4096 + (l % 64 + 64 - x % 64)
  unfolding guards
  e_is =
      let a = and_evens n l in
      let b = and_evens n x in
      let g = even_low n (x / 4096) in
      omega arith

  both_parts : (bit_and d (guards n) ≡ guards n) × (x % 64 ≤ l % 64)
  unfolding guards
  both_parts =
      let q : e / 4096 ≡ d = let z = e_is in omega arith in
      let r : e % 4096 ≡ l % 64 + 64 - x % 64 = let z = e_is in omega arith in
      let w : bit_and (e / 4096) (guards n) * 4096 + e % 4096 / 64 % 2 * 64 ≡ guards n * 4096 + 64 = sym (and_guards n e) ∙ h in
      let u : bit_and (e / 4096) (guards n) ≡ guards n = omega arith in
      let v : e % 4096 / 64 % 2 ≡ 1 = omega arith in
      (ap (λ (y : ℕ). bit_and y (guards n)) (sym q) ∙ u, omega arith)

pub under_evens :
    (n x l : ℕ) →
    bit_and (bit_and l (evens n) + guards n - bit_and x (evens n)) (guards n) ≡ guards n →
    (i : ℕ) →
    i < n →
    lane_in x (2 * i) ≤ lane_in l (2 * i)
under_evens zero x l h i b = absurd (not-suc-le-zero b)
under_evens (suc n) x l h zero b =
    let p = (both_parts n x l h).1 in
    let u = lane_first x in
    let v = lane_first l in
    omega arith
under_evens (suc n) x l h (suc i) b =
    let p = under_evens n (x / 4096) (l / 4096) (both_parts n x l h).0 i (le_of_suc-le-suc b) in
    let u = lane_up x i in
    let v = lane_up l i in
    omega arith

-- ---- the lanes between

lane_next : (x i : ℕ) → lane_in x (suc (2 * i)) ≡ lane_in (x / 64) (2 * i)
unfolding lane_in
lane_next x i =
    let e : 6 * suc (2 * i) ≡ 6 + 6 * (2 * i) = omega arith in
    ap (λ (k : ℕ). x / 2 ^ k % 64) e ∙ ap (λ (m : ℕ). m % 64) (sym (shr-shr x 6 (6 * (2 * i))))

pub under_both : (x l : ℕ) → EvenUnder x l → EvenUnder (x / 64) (l / 64) → Under x l
under_both x l a b j h =
    by_order (lane_in x j ≤ lane_in l j) (j % 2) 1
    (λ q.
    let e : 2 * (j / 2) ≡ j = omega arith in
    let p = a (j / 2) (omega arith) in
    rw e at p)
    (λ q.
    let e : suc (2 * (j / 2)) ≡ j = omega arith in
    let p = b (j / 2) (omega arith) in
    let u = lane_next x (j / 2) in
    let v = lane_next l (j / 2) in
    let w : lane_in x (suc (2 * (j / 2))) ≤ lane_in l (suc (2 * (j / 2))) = omega arith in
    rw e at w)

-- ---- limits that are put together from the last lane down

lane_here : (w v : ℕ) → v < 64 → lane_in (w * 64 + v) 0 ≡ v
unfolding lane_in
lane_here w v h = omega arith

lane_later : (w v i : ℕ) → v < 64 → lane_in (w * 64 + v) (suc i) ≡ lane_in w i
unfolding lane_in
lane_later w v i h =
    let e : 6 * suc i ≡ 6 + 6 * i = omega arith in
    let d : (w * 64 + v) / 64 ≡ w = omega arith in
    ap (λ (k : ℕ). (w * 64 + v) / 2 ^ k % 64) e
    ∙ ap (λ (m : ℕ). m % 64) (sym (shr-shr (w * 64 + v) 6 (6 * i)))
    ∙ ap (λ (m : ℕ). m / 2 ^ (6 * i) % 64) d

-- the lanes from j on are put together
pub record Joined (on : ℕ → Bool) (most k j w : ℕ) : Type 0 where
  pub low : j ≤ 10
  pub size : w < 2 ^ (6 * (10 - j))
  pub allows : (i : ℕ) → j + i < 10 → (v : ℕ) → v ≤ lane_in w i → lane_fits on most (10 * k + (j + i)) v ≡ true

module _ (on : ℕ → Bool) (most k : ℕ) where
  pub joined_none : Joined on most k 10 0
  joined_none = record { low = omega arith; size = omega arith; allows = λ i h. absurd (omega arith) }

  pub joined_fits : (j w v : ℕ) → 0 < j → Joined on most k j w → v < 64 → w * 64 + v < 2 ^ 60
  joined_fits j w v h t l =
      let s = t.size in
      let b = t.low in
      let p : 2 ^ (6 * (10 - j)) ≤ 2 ^ 54 = pow_mono {j = 54} (omega arith) in
      omega arith

  pub joined_more : (j w v : ℕ) → 0 < j → Joined on most k j w → Limit on most (10 * k + (j - 1)) v → Joined on most k (j - 1) (w * 64 + v)
  joined_more j w v h t l =
      record {
        low = let b = t.low in omega arith;
        size =
            let s = t.size in
            let b = t.low in
            let m = l.small in
            let e : 6 * (10 - (j - 1)) ≡ 6 * (10 - j) + 6 = omega arith in
            let p : 2 ^ (6 * (10 - (j - 1))) ≡ 2 ^ (6 * (10 - j)) * 64 = ap (λ (n : ℕ). 2 ^ n) e ∙ pow-add 2 (6 * (10 - j)) 6 in
            omega arith;
        allows = lanes;
      }
    where
      lanes : (i : ℕ) → j - 1 + i < 10 → (u : ℕ) → u ≤ lane_in (w * 64 + v) i → lane_fits on most (10 * k + (j - 1 + i)) u ≡ true
      lanes zero b u q =
          let e = lane_here w v l.small in
          let z : 10 * k + (j - 1 + 0) ≡ 10 * k + (j - 1) = omega arith in
          ap (λ (s : ℕ). lane_fits on most s u) z ∙ l.allows u (omega arith)
      lanes (suc i) b u q =
          let e = lane_later w v i l.small in
          let z : 10 * k + (j - 1 + suc i) ≡ 10 * k + (j + i) = omega arith in
          ap (λ (s : ℕ). lane_fits on most s u) z ∙ t.allows i (omega arith) u (omega arith)

  pub joined_done : (j w : ℕ) → j ≤ 0 → Joined on most k j w → Allows on most k w
  joined_done j w h t i b v q =
      let z : 10 * k + i ≡ 10 * k + (j + i) = omega arith in
      ap (λ (s : ℕ). lane_fits on most s v) z ∙ t.allows i (omega arith) v q

  -- a cell under its limits passes the test
  pub under_fits : (x l : ℕ) → Allows on most k l → Under x l → cell_fits on most k x ≡ true
  unfolding cell_fits
  under_fits x l a u =
      every_by (λ j. lane_fits on most (10 * k + j) (lane_in x j)) 10 (λ j h. a j h (lane_in x j) (u j h))

-- the limits of the first k cells
abbrev pub AllowTo : (ℕ → Bool) → ℕ → ℕ → List ℕ → Type 0
AllowTo on most k l = (i : ℕ) → i < k → Allows on most i (get_or l i 0)

pub allow_more :
    (on : ℕ → Bool) (most k v : ℕ) (l : List ℕ) →
    k < length l →
    AllowTo on most k l →
    Allows on most k v →
    AllowTo on most (k + 1) (set l k v)
allow_more on most k v l h a t =
    below_more (λ (i : ℕ). Allows on most i (get_or (set l k v) i 0)) k
    (λ i b j q u m. a i b j q u (rw (get_or-set_other l k i v 0 (λ e. omega arith)) at m))
    (λ j q u m. t j q u (rw (get_or-set_same l k v 0 h) at m))

-- ---- one limit

module _ (on : ℕ → Bool) (most s : ℕ) where
  pub limit_past : slot_count ≤ s → Limit on most s 63
  limit_past h =
      record { small = omega arith; allows = λ v l. or_left (leb slot_count s) _ (le-leb slot_count s h) }

  pub limit_none : Limit on most s 0
  limit_none =
      record {
        small = omega arith;
        allows = λ v l. or_also (leb slot_count s) _ (le-leb v (cond (on s) most 0) (omega arith));
      }

  pub limit_most : (n : ℕ) → n < 64 → n ≤ most → on s ≡ true → Limit on most s n
  limit_most n h m o =
      record {
        small = h;
        allows =
            λ v l.
            or_also (leb slot_count s) _
            (ap (λ (b : Bool). leb v (cond b most 0)) o ∙ le-leb v most (omega arith));
      }
