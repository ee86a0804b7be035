-- The digits of a number to the base 4: below a power, with a gap opened for a 0, and with one more on top.
-- By induction on the place: a number is its lowest digit and four times the others.
-- Assumes nothing.
use Prim.Native.Nat.{ℕ, zero, suc, ◌+◌, ◌*◌, ◌-◌, ◌/◌, ◌%◌, ◌^◌, ◌≤◌, ◌<◌}
use mathlib.Core.Path.{◌≡◌, refl, sym, ap, ◌∙◌}
use native.Mathlib.Nat.{pow-suc, pow-succ', pow-le-pow_right, mod-lt, mod-one, mod-le, not-suc-le-zero, le_of_suc-le-suc}
use native.Mathlib.Nat.{zero-lt-suc, mul_assoc, one-mul, div-div-eq-div-mul, mod-add-div}
use native.Mathlib.Numerals.{add-one}
use native.Mathlib.Omega.{arith}
use lib.Arith.{mod-mul}
use lib.Bits.{bit_and, and_mask}
use lib.Pow.{shl_exact, pow_pos}
use Rattle.notes.specs.View.{digit}

-- ---- powers of 4

pub four_pos : (k : ℕ) → 0 < 4 ^ k
four_pos zero = omega arith
four_pos (suc k) = let p = pow-suc 4 k in let h = four_pos k in omega arith

pub four_two : (k : ℕ) → 4 ^ k ≡ 2 ^ (2 * k)
four_two zero = refl
four_two (suc k) =
    let e : 2 * suc k ≡ suc (suc (2 * k)) = omega arith in
    let p = pow-suc 4 k in
    let q = pow-suc 2 (suc (2 * k)) in
    let r = pow-suc 2 (2 * k) in
    let h = four_two k in
    let z : 4 ^ suc k ≡ 2 ^ suc (suc (2 * k)) = omega arith in
    z ∙ ap (λ (n : ℕ). 2 ^ n) (sym e)

pub four_mono : (j k : ℕ) → j ≤ k → 4 ^ j ≤ 4 ^ k
four_mono j k h = pow-le-pow_right (zero-lt-suc 3) h

-- ---- a digit at a time

pub digit_zero : (x : ℕ) → digit x 0 ≡ x % 4
unfolding digit
digit_zero x = omega arith

pub digit_suc : (x k : ℕ) → digit x (suc k) ≡ digit (x / 4) k
unfolding digit
digit_suc x k =
    ap (λ (n : ℕ). x / n % 4) (pow-succ' 4 k) ∙ ap (λ (n : ℕ). n % 4) (sym (div-div-eq-div-mul x 4 (4 ^ k)))

-- a number by its lowest digit and the others
pub digit_low : (a b : ℕ) → a < 4 → digit (a + 4 * b) 0 ≡ a
digit_low a b h = digit_zero (a + 4 * b) ∙ omega arith

pub digit_high : (a b k : ℕ) → a < 4 → digit (a + 4 * b) (suc k) ≡ digit b k
digit_high a b k h =
    let e : (a + 4 * b) / 4 ≡ b = omega arith in
    digit_suc (a + 4 * b) k ∙ ap (λ (n : ℕ). digit n k) e

low_four : (x k : ℕ) → x % 4 ^ suc k ≡ x % 4 + 4 * (x / 4 % 4 ^ k)
low_four x k =
    let e : x % (4 ^ k * 4) ≡ (x / 4 % 4 ^ k) * 4 + x % 4 = mod-mul x (four_pos k) (zero-lt-suc 3) in
    ap (λ (n : ℕ). x % n) (pow-suc 4 k) ∙ e ∙ omega arith

-- ---- the digits below a place

pub digit_below : (n k x : ℕ) → k < n → digit (x % 4 ^ n) k ≡ digit x k
digit_below zero k x h = absurd (not-suc-le-zero h)
digit_below (suc n) zero x h =
    ap (λ (y : ℕ). digit y 0) (low_four x n)
    ∙ digit_low (x % 4) (x / 4 % 4 ^ n) (mod-lt x (zero-lt-suc 3))
    ∙ sym (digit_zero x)
digit_below (suc n) (suc k) x h =
    ap (λ (y : ℕ). digit y (suc k)) (low_four x n)
    ∙ digit_high (x % 4) (x / 4 % 4 ^ n) k (mod-lt x (zero-lt-suc 3))
    ∙ digit_below n k (x / 4) (le_of_suc-le-suc h)
    ∙ sym (digit_suc x k)

-- ---- a gap at a place: the digits from it on one higher, and a 0 there

abbrev gap : ℕ → ℕ → ℕ
gap x zero = 4 * x
gap x (suc p) = x % 4 + 4 * gap (x / 4) p

gap_is : (x p : ℕ) → 4 * x - 3 * (x % 4 ^ p) ≡ gap x p
gap_is x zero = let e : x % 4 ^ 0 ≡ 0 = mod-one x in omega arith
gap_is x (suc p) =
    let e = low_four x p in
    let i = gap_is (x / 4) p in
    let l : x / 4 % 4 ^ p ≤ x / 4 = mod-le (x / 4) (4 ^ p) in
    omega arith

gap_before : (p k x : ℕ) → k < p → digit (gap x p) k ≡ digit x k
gap_before zero k x h = absurd (not-suc-le-zero h)
gap_before (suc p) zero x h = digit_low (x % 4) (gap (x / 4) p) (mod-lt x (zero-lt-suc 3)) ∙ sym (digit_zero x)
gap_before (suc p) (suc k) x h =
    digit_high (x % 4) (gap (x / 4) p) k (mod-lt x (zero-lt-suc 3)) ∙ gap_before p k (x / 4) (le_of_suc-le-suc h)
    ∙ sym (digit_suc x k)

gap_here : (p x : ℕ) → digit (gap x p) p ≡ 0
gap_here zero x = digit_zero (4 * x) ∙ omega arith
gap_here (suc p) x = digit_high (x % 4) (gap (x / 4) p) p (mod-lt x (zero-lt-suc 3)) ∙ gap_here p (x / 4)

gap_after : (p k x : ℕ) → p ≤ k → digit (gap x p) (suc k) ≡ digit x k
gap_after zero k x h = let e : 4 * x / 4 ≡ x = omega arith in digit_suc (4 * x) k ∙ ap (λ (n : ℕ). digit n k) e
gap_after (suc p) zero x h = absurd (not-suc-le-zero h)
gap_after (suc p) (suc k) x h =
    digit_high (x % 4) (gap (x / 4) p) (suc k) (mod-lt x (zero-lt-suc 3)) ∙ gap_after p k (x / 4) (le_of_suc-le-suc h)
    ∙ sym (digit_suc x k)

-- what a gap among the first n digits leaves
pub record Gapped (x y n p : ℕ) : Type 0 where
  pub before : (k : ℕ) → k < p → digit y k ≡ digit x k
  pub here : digit y p ≡ 0
  pub after : (k : ℕ) → p ≤ k → k < n → digit y (suc k) ≡ digit x k

pub gapped : (x n p y : ℕ) → p ≤ n → y ≡ 4 * (x % 4 ^ n) - 3 * (x % 4 ^ n % 4 ^ p) → Gapped x y n p
gapped x n p y h e =
    let g : y ≡ gap (x % 4 ^ n) p = e ∙ gap_is (x % 4 ^ n) p in
    record {
      before = λ k l. ap (λ (z : ℕ). digit z k) g ∙ gap_before p k (x % 4 ^ n) l ∙ digit_below n k x (omega arith);
      here = ap (λ (z : ℕ). digit z p) g ∙ gap_here p (x % 4 ^ n);
      after = λ k l m. ap (λ (z : ℕ). digit z (suc k)) g ∙ gap_after p k (x % 4 ^ n) l ∙ digit_below n k x m;
    }

-- ---- one more digit on top

pub top_lt : (x k a : ℕ) → x < 4 ^ k → a < 4 → x + a * 4 ^ k < 4 ^ suc k
top_lt x k zero h l = let p = pow-suc 4 k in omega arith
top_lt x k (suc zero) h l = let p = pow-suc 4 k in omega arith
top_lt x k (suc (suc zero)) h l = let p = pow-suc 4 k in omega arith
top_lt x k (suc (suc (suc zero))) h l = let p = pow-suc 4 k in omega arith
top_lt x k (suc (suc (suc (suc a)))) h l = absurd (omega arith)

top_four : (x k a : ℕ) → x + a * 4 ^ suc k ≡ x % 4 + 4 * (x / 4 + a * 4 ^ k)
top_four x k a =
    let p : a * 4 ^ suc k ≡ a * 4 ^ k * 4 = ap (λ (n : ℕ). a * n) (pow-suc 4 k) ∙ sym (mul_assoc a (4 ^ k) 4) in
    let q = mod-add-div x 4 in
    omega arith

pub top_other : (k j x a : ℕ) → j < k → digit (x + a * 4 ^ k) j ≡ digit x j
top_other zero j x a h = absurd (not-suc-le-zero h)
top_other (suc k) zero x a h =
    ap (λ (y : ℕ). digit y 0) (top_four x k a)
    ∙ digit_low (x % 4) (x / 4 + a * 4 ^ k) (mod-lt x (zero-lt-suc 3))
    ∙ sym (digit_zero x)
top_other (suc k) (suc j) x a h =
    ap (λ (y : ℕ). digit y (suc j)) (top_four x k a)
    ∙ digit_high (x % 4) (x / 4 + a * 4 ^ k) j (mod-lt x (zero-lt-suc 3))
    ∙ top_other k j (x / 4) a (le_of_suc-le-suc h)
    ∙ sym (digit_suc x j)

pub top_here : (k x a : ℕ) → x < 4 ^ k → a < 4 → digit (x + a * 4 ^ k) k ≡ a
top_here zero x a h l = digit_zero (x + a * 1) ∙ omega arith
top_here (suc k) x a h l =
    let p = pow-suc 4 k in
    let b : x / 4 < 4 ^ k = omega arith in
    ap (λ (y : ℕ). digit y (suc k)) (top_four x k a)
    ∙ digit_high (x % 4) (x / 4 + a * 4 ^ k) k (mod-lt x (zero-lt-suc 3))
    ∙ top_here k (x / 4) a b l

-- ---- as shifts and masks

pub shifted : (x k : ℕ) → x / 2 ^ (2 * k) % 4 ≡ digit x k
unfolding digit
shifted x k = ap (λ (p : ℕ). x / p % 4) (sym (four_two k))

pub one_shifted : (k : ℕ) → k < 32 → 1 * 2 ^ (2 * k) % 2 ^ 64 ≡ 2 ^ (2 * k)
one_shifted k h = shl_exact 1 (2 * k) 64 (omega arith) (omega arith) ∙ one-mul (2 ^ (2 * k))

pub one_there : (k : ℕ) → k < 32 → 1 ≤ 1 * 2 ^ (2 * k) % 2 ^ 64
one_there k h = rw (one_shifted k h) (pow_pos (2 * k))

pub masked : (x k : ℕ) → k < 32 → bit_and x (1 * 2 ^ (2 * k) % 2 ^ 64 - 1) ≡ x % 4 ^ k
masked x k h = rw (one_shifted k h, four_two k) (and_mask x (2 * k))

pub low_bounds : (x k r : ℕ) → k < 32 → r ≡ x % 4 ^ k → (r < 4611686018427387904) × (r ≤ x)
low_bounds x k r h e =
    let a : x % 4 ^ k < 4 ^ k = mod-lt x (four_pos k) in
    let b : 4 ^ k ≤ 4 ^ 31 = four_mono k 31 (omega arith) in
    let d : x % 4 ^ k ≤ x = mod-le x (4 ^ k) in
    (omega arith, omega arith)

pub top_shifted : (a k : ℕ) → a < 4 → k < 32 → a * 2 ^ (2 * k) % 2 ^ 64 ≡ a * 4 ^ k
top_shifted a k l h = shl_exact 2 (2 * k) 64 l (omega arith) ∙ ap (λ (p : ℕ). a * p) (sym (four_two k))

pub top_fits : (x a k : ℕ) → x < 4 ^ k → a < 4 → k < 32 → x + a * 2 ^ (2 * k) % 2 ^ 64 < 18446744073709551616
top_fits x a k s l h =
    let b : 4 ^ suc k ≤ 4 ^ 32 = four_mono (suc k) 32 h in
    let t : x + a * 4 ^ k < 4 ^ suc k = top_lt x k a s l in
    rw (top_shifted a k l h) (omega arith)

pub top_added : (x a k : ℕ) → x < 4 ^ k → a < 4 → k < 32
    → (x + a * 2 ^ (2 * k) % 2 ^ 64 ≡ x + a * 4 ^ k) × (x + a * 2 ^ (2 * k) % 2 ^ 64 < 4 ^ (k + 1))
top_added x a k s l h =
    (ap (λ (p : ℕ). x + p) (top_shifted a k l h), rw (top_shifted a k l h, add-one k) (top_lt x k a s l))
