-- What a pass gathers turn by turn, and what a union of cells tells of each cell.
-- Assumes nothing.
use Rattle.std.proofs.Common.{◌≡◌, ℕ, zero, suc, ◌+◌, ◌%◌, ◌^◌, ◌<◌, ◌≤◌, List, get_or, refl, not-suc-le-zero, le_antisymm, add-one, arith}
use native.Mathlib.Decide.{dec_lt}
use lib.Bits.{bit_or, or_add_and, and_le_l, and_le_r}
use Rattle.columns.specs.Gather.{gathered}

pub in_left : (a b : ℕ) → a ≤ bit_or a b
in_left a b = omega (arith, or_add_and a b, and_le_r a b)

pub in_right : (a b : ℕ) → b ≤ bit_or a b
in_right a b = omega (arith, or_add_and a b, and_le_l a b)

-- ---- the turns of a pass

pub gathered_none : (c : List ℕ) (at k : ℕ) → 0 ≡ gathered c at k 0
unfolding gathered
gathered_none c at k = refl

pub gathered_more :
    (c : List ℕ) (at k i u x w : ℕ) →
    u ≡ gathered c at k i →
    x ≡ get_or c (at + i) 0 →
    w ≡ (x + k) % 2 ^ 64 →
    bit_or (bit_or u x) w ≡ gathered c at k (i + 1)
unfolding gathered
gathered_more c at k i u x w p q r = rw (add-one, r, q, p) refl

pub gathered_end : (c : List ℕ) (at k n i u : ℕ) → i ≤ n → n ≤ i → u ≡ gathered c at k i → u ≡ gathered c at k n
gathered_end c at k n i u l h p = rw (le_antisymm h l) p

-- ---- each cell: what a union tells of both its parts, the union of a pass tells of each cell and of its sum

module _
    (P : ℕ → Type 0)
    (left : (u v : ℕ) → P (bit_or u v) → P u)
    (right : (u v : ℕ) → P (bit_or u v) → P v)
    (c : List ℕ)
    (at k : ℕ) where
  pub gathered_each : (n : ℕ) → P (gathered c at k n) → (i : ℕ) → i < n → P (get_or c (at + i) 0) × P ((get_or c (at + i) 0 + k) % 2 ^ 64)
  unfolding gathered
  gathered_each zero h i b = absurd (not-suc-le-zero b)
  gathered_each (suc n) h i b =
      let x = get_or c (at + n) 0 in
      let g = gathered c at k n in
      let r = (x + k) % 2 ^ 64 in
      let both = left (bit_or g x) r h in
      elim (dec_lt i n) [
        | yes l ↦ gathered_each n (left g x both) i l
        | no l ↦
            let e : i ≡ n = omega arith in
            rw e (right g x both, right (bit_or g x) r h)
      ]
