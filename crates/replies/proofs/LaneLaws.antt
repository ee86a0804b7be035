-- Lanes of a cell: one more in a lane, or none, leaves every other lane as it is. A cell is the digits from a lane on, and those below.
-- Assumes nothing.
use Prim.Native.Nat.{ℕ, suc, ◌+◌, ◌*◌, ◌-◌, ◌/◌, ◌%◌, ◌^◌, ◌≤◌, ◌<◌}
use mathlib.Core.Path.{◌≡◌, sym, ap, ◌∙◌}
use native.Mathlib.Nat.{mod-lt, div-lt_iff_lt-mul, add-mul, one-mul, zero-div}
use native.Mathlib.Omega.{arith}
use lib.Pow.{pow_pos, pow-add, shr-shr, split, high, low, field, mod-mod-pow}
use Rattle.index.proofs.Flags.{by_order}
use Rattle.replies.specs.View.{lane_in, LaneSet}

-- a lane above lane j reads the digits above lane j alone
above : (x i j : ℕ) → j < i → x / 2 ^ (6 * i) ≡ x / 2 ^ (6 * j) / 64 / 2 ^ (6 * (i - suc j))
above x i j h =
    let e : 6 * i ≡ 6 * j + 6 + 6 * (i - suc j) = omega arith in
    ap (λ (k : ℕ). x / 2 ^ k) e
    ∙ sym (shr-shr x (6 * j + 6) (6 * (i - suc j)))
    ∙ ap (λ (n : ℕ). n / 2 ^ (6 * (i - suc j))) (sym (shr-shr x (6 * j) 6))

-- and one below it those below alone
below : (x i j : ℕ) → i < j → x / 2 ^ (6 * i) % 64 ≡ x % 2 ^ (6 * j) % 2 ^ (6 + 6 * i) / 2 ^ (6 * i)
below x i j h =
    let e : 6 * (j - suc i) + (6 + 6 * i) ≡ 6 * j = omega arith in
    sym (field x 6 (6 * i))
    ∙ ap (λ (n : ℕ). n / 2 ^ (6 * i)) (sym (mod-mod-pow x (6 * (j - suc i)) (6 + 6 * i)))
    ∙ ap (λ (k : ℕ). x % 2 ^ k % 2 ^ (6 + 6 * i) / 2 ^ (6 * i)) e

-- a cell whose digits from lane j on are q
module _ (x y j q v : ℕ) (e : y ≡ q * 2 ^ (6 * j) + x % 2 ^ (6 * j)) where
  upper : y / 2 ^ (6 * j) ≡ q
  upper = ap (λ (n : ℕ). n / 2 ^ (6 * j)) e ∙ high q (6 * j) (mod-lt x (pow_pos (6 * j)))

  lower : y % 2 ^ (6 * j) ≡ x % 2 ^ (6 * j)
  lower = ap (λ (n : ℕ). n % 2 ^ (6 * j)) e ∙ low q (6 * j) (mod-lt x (pow_pos (6 * j)))

  pub lane_set : q / 64 ≡ x / 2 ^ (6 * j) / 64 → q % 64 ≡ v → LaneSet x y j v
  unfolding lane_in
  lane_set h l =
      record {
        here = ap (λ (n : ℕ). n % 64) upper ∙ l;
        others =
            λ i n.
            by_order (y / 2 ^ (6 * i) % 64 ≡ x / 2 ^ (6 * i) % 64) i j
            (λ b.
            below y i j b ∙ ap (λ (n : ℕ). n % 2 ^ (6 + 6 * i) / 2 ^ (6 * i)) lower ∙ sym (below x i j b))
            (λ b.
            let g : j < i = omega arith in
            ap (λ (n : ℕ). n % 64) (above y i j g)
            ∙ ap (λ (n : ℕ). n / 64 / 2 ^ (6 * (i - suc j)) % 64) upper
            ∙ ap (λ (n : ℕ). n / 2 ^ (6 * (i - suc j)) % 64) h
            ∙ ap (λ (n : ℕ). n % 64) (sym (above x i j g)));
      }

-- one more in a lane that is not full
module _ (x j : ℕ) (h : lane_in x j < 63) where
  more_is : x + 2 ^ (6 * j) ≡ (x / 2 ^ (6 * j) + 1) * 2 ^ (6 * j) + x % 2 ^ (6 * j)
  more_is =
      let s = split x (6 * j) in
      let m : (x / 2 ^ (6 * j) + 1) * 2 ^ (6 * j) ≡ x / 2 ^ (6 * j) * 2 ^ (6 * j) + 2 ^ (6 * j) =
      add-mul (x / 2 ^ (6 * j)) 1 (2 ^ (6 * j)) ∙ ap (λ (n : ℕ). x / 2 ^ (6 * j) * 2 ^ (6 * j) + n) (one-mul (2 ^ (6 * j))) in
      omega arith

  pub more_set : LaneSet x (x + 2 ^ (6 * j)) j (lane_in x j + 1)
  unfolding lane_in
  more_set =
      let q : ℕ = x / 2 ^ (6 * j) in
      lane_set x (x + 2 ^ (6 * j)) j (q + 1) (lane_in x j + 1) more_is (omega arith) (omega arith)

  pub more_fits : j < 10 → x < 2 ^ 64 → x + 2 ^ (6 * j) < 2 ^ 64
  unfolding lane_in
  more_fits b l =
      let e : 58 - 6 * j + 6 + 6 * j ≡ 64 = omega arith in
      let p : 2 ^ 64 ≡ 2 ^ (58 - 6 * j) * 64 * 2 ^ (6 * j) =
      ap (λ (k : ℕ). 2 ^ k) (sym e) ∙ pow-add 2 (58 - 6 * j + 6) (6 * j)
      ∙ ap (λ (n : ℕ). n * 2 ^ (6 * j)) (pow-add 2 (58 - 6 * j) 6) in
      let q : x / 2 ^ (6 * j) < 2 ^ (58 - 6 * j) * 64 = (div-lt_iff_lt-mul (pow_pos (6 * j))).1 (rw p at l) in
      let u : (x + 2 ^ (6 * j)) / 2 ^ (6 * j) ≡ x / 2 ^ (6 * j) + 1 =
      upper x (x + 2 ^ (6 * j)) j (x / 2 ^ (6 * j) + 1) 0 more_is in
      rw p ((div-lt_iff_lt-mul (pow_pos (6 * j))).0 (rw u (omega arith)))

-- none in a lane
module _ (x j : ℕ) where
  none_split :
      (q d : ℕ) →
      d ≤ q →
      x ≡ q * 2 ^ (6 * j) + x % 2 ^ (6 * j) →
      (d * 2 ^ (6 * j) ≤ x) × (x - d * 2 ^ (6 * j) ≡ (q - d) * 2 ^ (6 * j) + x % 2 ^ (6 * j))
  none_split q d h e =
      let m : (q - d + d) * 2 ^ (6 * j) ≡ (q - d) * 2 ^ (6 * j) + d * 2 ^ (6 * j) = add-mul (q - d) d (2 ^ (6 * j)) in
      let z : q - d + d ≡ q = omega arith in
      let w = ap (λ (n : ℕ). n * 2 ^ (6 * j)) z in
      (omega arith, omega arith)

  parts : (lane_in x j * 2 ^ (6 * j) ≤ x)
      × (x - lane_in x j * 2 ^ (6 * j) ≡ (x / 2 ^ (6 * j) - lane_in x j) * 2 ^ (6 * j) + x % 2 ^ (6 * j))
  unfolding lane_in
  parts = none_split (x / 2 ^ (6 * j)) (lane_in x j) (omega arith) (sym (split x (6 * j)))

  pub none_fits : lane_in x j * 2 ^ (6 * j) ≤ x
  none_fits = parts.0

  pub none_set : LaneSet x (x - lane_in x j * 2 ^ (6 * j)) j 0
  unfolding lane_in
  none_set = lane_set x _ j (x / 2 ^ (6 * j) - lane_in x j) 0 parts.1 (omega arith) (omega arith)

-- the same, of the parts as they are read
pub more_of : (x j u : ℕ) → u ≡ 2 ^ (6 * j) → lane_in x j < 63 → LaneSet x (x + u) j (lane_in x j + 1)
more_of x j u e h = rw e (more_set x j h)

pub more_in : (x j u : ℕ) → u ≡ 2 ^ (6 * j) → lane_in x j < 63 → j < 10 → x < 2 ^ 64 → x + u < 2 ^ 64
more_in x j u e h b l = rw e (more_fits x j h b l)

pub none_of : (x j l u : ℕ) → l ≡ lane_in x j → u ≡ 2 ^ (6 * j) → LaneSet x (x - l * u) j 0
none_of x j l u d e = rw (d, e) (none_set x j)

pub none_in : (x j l u : ℕ) → l ≡ lane_in x j → u ≡ 2 ^ (6 * j) → l * u ≤ x
none_in x j l u d e = rw (d, e) (none_fits x j)

-- a cell of 0 has 0 in every lane
pub lane_zero : (j : ℕ) → lane_in 0 j ≡ 0
unfolding lane_in
lane_zero j = ap (λ (n : ℕ). n % 64) (zero-div (2 ^ (6 * j)))
