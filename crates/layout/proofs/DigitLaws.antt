-- The bits of a number, one by one: of a union, of what two have in common, of a complement; a number is its bits.
-- Assumes nothing.
use Prim.Native.Nat.{ℕ, zero, suc, ◌+◌, ◌*◌, ◌-◌, ◌/◌, ◌%◌, ◌^◌, ◌≤◌, ◌<◌, min, max}
use mathlib.Core.Path.{◌≡◌, sym, ap, ◌∙◌}
use mathlib.Core.Logic.{◌≢◌}
use native.Mathlib.Omega.{arith}
use native.Mathlib.Nat.{mod-lt, pow-suc, le_of_suc-le-suc, zero-lt-suc, one-mul, div-eq_of_lt}
use lib.Pow.{shr-shr, shl-shr, pow-lt, pow-add}
use lib.Bits.{bit_and, bit_or, and_step, or_step, and_shr, or_shr}
use Rattle.index.proofs.Flags.{by_order}

low_lt : (n : ℕ) → n % 2 < 2
low_lt n = mod-lt n (zero-lt-suc 1)

pub digit_le : (n s : ℕ) → n / 2 ^ s % 2 ≤ 1
digit_le n s = let h = low_lt (n / 2 ^ s) in omega arith

low : (n q r : ℕ) → n ≡ q * 2 + r → r < 2 → n % 2 ≡ r
low n q r e h = omega arith

min_lt : (a b : ℕ) → a < 2 → min a b < 2
min_lt zero zero h = omega arith
min_lt zero (suc b) h = omega arith
min_lt (suc zero) zero h = omega arith
min_lt (suc zero) (suc b) h = omega arith
min_lt (suc (suc a)) b h = absurd (omega arith)

max_lt : (a b : ℕ) → a < 2 → b < 2 → max a b < 2
max_lt zero zero h l = omega arith
max_lt zero (suc b) h l = omega arith
max_lt (suc zero) zero h l = omega arith
max_lt (suc zero) (suc b) h l = omega arith
max_lt (suc (suc a)) b h l = absurd (omega arith)

low_and : (a b : ℕ) → bit_and a b % 2 ≡ min (a % 2) (b % 2)
low_and a b =
    low (bit_and a b) (bit_and (a / 2) (b / 2)) (min (a % 2) (b % 2)) (and_step a b) (min_lt (a % 2) (b % 2) (low_lt a))

low_or : (a b : ℕ) → bit_or a b % 2 ≡ max (a % 2) (b % 2)
low_or a b =
    low (bit_or a b) (bit_or (a / 2) (b / 2)) (max (a % 2) (b % 2)) (or_step a b) (max_lt (a % 2) (b % 2) (low_lt a) (low_lt b))

pub and_digit : (a b s : ℕ) → bit_and a b / 2 ^ s % 2 ≡ min (a / 2 ^ s % 2) (b / 2 ^ s % 2)
and_digit a b s = ap (λ n. n % 2) (and_shr a b s) ∙ low_and (a / 2 ^ s) (b / 2 ^ s)

pub or_digit : (a b s : ℕ) → bit_or a b / 2 ^ s % 2 ≡ max (a / 2 ^ s % 2) (b / 2 ^ s % 2)
or_digit a b s = ap (λ n. n % 2) (or_shr a b s) ∙ low_or (a / 2 ^ s) (b / 2 ^ s)

-- the halves of a number have its bits from the second on
half_digit : (n j : ℕ) → n / 2 ^ suc j % 2 ≡ n / 2 / 2 ^ j % 2
half_digit n j = ap (λ (m : ℕ). m % 2) (sym (shr-shr n 1 j ∙ (let e : 1 + j ≡ suc j = omega arith in ap (λ (x : ℕ). n / 2 ^ x) e)))

-- the complement in k bits
pub not_digit : (j k w : ℕ) → w < 2 ^ k → j < k → (2 ^ k - 1 - w) / 2 ^ j % 2 ≡ 1 - w / 2 ^ j % 2
not_digit j zero w h l = absurd (omega arith)
not_digit zero (suc k) w h l = let p = pow-suc 2 k in omega arith
not_digit (suc j) (suc k) w h l =
    let p = pow-suc 2 k in
    let e : (2 ^ suc k - 1 - w) / 2 ≡ 2 ^ k - 1 - w / 2 = omega arith in
    half_digit (2 ^ suc k - 1 - w) j ∙ ap (λ (n : ℕ). n / 2 ^ j % 2) e ∙ not_digit j k (w / 2) (omega arith) (le_of_suc-le-suc l)
    ∙ ap (λ (n : ℕ). 1 - n) (sym (half_digit w j))

-- a single bit
pub own_digit : (s : ℕ) → 2 ^ s / 2 ^ s % 2 ≡ 1
own_digit s = ap (λ (n : ℕ). n / 2 ^ s % 2) (sym (one-mul (2 ^ s))) ∙ ap (λ (n : ℕ). n % 2) (shl-shr 1 s)

pub other_digit : (s j : ℕ) → j ≢ s → 2 ^ s / 2 ^ j % 2 ≡ 0
other_digit s j n =
    by_order (2 ^ s / 2 ^ j % 2 ≡ 0) s j
    (λ (l : s < j). ap (λ (m : ℕ). m % 2) (div-eq_of_lt (pow-lt l)))
    (λ (l : j ≤ s).
    let d : ℕ = s - suc j in
    let e : s ≡ suc d + j = omega arith in
    ap (λ (x : ℕ). 2 ^ x / 2 ^ j % 2) e
    ∙ ap (λ (x : ℕ). x / 2 ^ j % 2) (pow-add 2 (suc d) j)
    ∙ ap (λ (x : ℕ). x % 2) (shl-shr (2 ^ suc d) j)
    ∙ (let p = pow-suc 2 d in omega arith))

-- a number below 2^k is its k bits
pub digits_same :
    (k v w : ℕ) →
    v < 2 ^ k →
    w < 2 ^ k →
    ((s : ℕ) → s < k → v / 2 ^ s % 2 ≡ w / 2 ^ s % 2) →
    v ≡ w
digits_same zero v w a b h = omega arith
digits_same (suc k) v w a b h =
    let p = pow-suc 2 k in
    let q = digits_same k (v / 2) (w / 2) (omega arith) (omega arith)
    (λ s l. sym (half_digit v s) ∙ h (suc s) (omega arith) ∙ half_digit w s) in
    let z : v / 1 % 2 ≡ w / 1 % 2 = h zero (zero-lt-suc k) in
    omega arith
