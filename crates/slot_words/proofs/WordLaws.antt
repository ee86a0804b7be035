-- Words of four cells: what a test says of one bit it says of one slot.
-- Assumes nothing.
use Prim.Native.Nat.{ℕ, zero, suc, ◌+◌, ◌-◌, ◌/◌, ◌%◌, ◌^◌, ◌≤◌, ◌<◌, min, max}
use mathlib.Core.Path.{◌≡◌, refl, sym, ap, ap₂, ◌∙◌}
use mathlib.Core.List.{List, [], ◌∷◌}
use native.Mathlib.Omega.{arith}
use native.Mathlib.Nat.{mod-lt, zero-lt-suc, zero-div}
use lib.ListN.{get_or}
use lib.Bits.{bit_and, bit_or}
use Rattle.records.specs.Records.{slot_count}
use Rattle.layout.specs.View.{bit_at}
use Rattle.layout.proofs.DigitLaws.{digit_le, and_digit, or_digit, not_digit}
use Rattle.layout.proofs.EndLaws.{or_none}

-- ---- one word
none_digit : (j : ℕ) → 0 / 2 ^ j % 2 ≡ 0
none_digit j = ap (λ (n : ℕ). n % 2) (zero-div (2 ^ j))

min_one : (x y : ℕ) → x ≡ 1 → y ≤ 1 → min x y ≡ 0 → y ≡ 0
min_one x zero e l m = refl
min_one x (suc zero) e l m = let z : min 1 1 ≡ 0 = rw e at m in absurd (omega arith)
min_one x (suc (suc y)) e l m = absurd (omega arith)

pub outside_bit : (a b : ℕ) → b < 2 ^ 64 → bit_and a (2 ^ 64 - 1 - b) ≡ 0 → (j : ℕ) → j < 64 → a / 2 ^ j % 2 ≡ 1 → b / 2 ^ j % 2 ≡ 1
outside_bit a b h z j l e =
    let m : min (a / 2 ^ j % 2) ((2 ^ 64 - 1 - b) / 2 ^ j % 2) ≡ 0 =
    sym (and_digit a (2 ^ 64 - 1 - b) j) ∙ ap (λ (n : ℕ). n / 2 ^ j % 2) z ∙ none_digit j in
    let q = min_one (a / 2 ^ j % 2) ((2 ^ 64 - 1 - b) / 2 ^ j % 2) e (digit_le (2 ^ 64 - 1 - b) j) m in
    let n = not_digit j 64 b h l in
    let d = digit_le b j in
    omega arith

pub common_bit : (a b : ℕ) → bit_and a b ≡ 0 → (j : ℕ) → j < 64 → a / 2 ^ j % 2 ≡ 1 → b / 2 ^ j % 2 ≡ 0
common_bit a b z j l e =
    min_one (a / 2 ^ j % 2) (b / 2 ^ j % 2) e (digit_le b j)
    (sym (and_digit a b j) ∙ ap (λ (n : ℕ). n / 2 ^ j % 2) z ∙ none_digit j)

-- ---- four
pub at_word : (c : List ℕ) (s : ℕ) → bit_at c 0 s ≡ get_or c (s / 64) 0 / 2 ^ (s % 64) % 2
unfolding bit_at
at_word c s = let e : 0 + s / 64 ≡ s / 64 = omega arith in ap (λ (n : ℕ). get_or c n 0 / 2 ^ (s % 64) % 2) e

low64 : (s : ℕ) → s % 64 < 64
low64 s = mod-lt s (zero-lt-suc 63)

-- F i j is a fact of bit j of word i
pub each_word :
    (F : ℕ → ℕ → Type 0) →
    ((j : ℕ) → j < 64 → F 0 j) →
    ((j : ℕ) → j < 64 → F 1 j) →
    ((j : ℕ) → j < 64 → F 2 j) →
    ((j : ℕ) → j < 64 → F 3 j) →
    (s : ℕ) →
    s < slot_count →
    F (s / 64) (s % 64)
each_word F a b c d s h = go (s / 64) (omega arith)
  where
    go : (q : ℕ) → q < 4 → F q (s % 64)
    go zero l = a (s % 64) (low64 s)
    go (suc zero) l = b (s % 64) (low64 s)
    go (suc (suc zero)) l = c (s % 64) (low64 s)
    go (suc (suc (suc zero))) l = d (s % 64) (low64 s)
    go (suc (suc (suc (suc q)))) l = absurd (omega arith)

module _ (F : ℕ → ℕ → Type 0) (x0 x1 x2 x3 : ℕ) where
  pub each_test :
      (x0 ≡ 0 → (j : ℕ) → j < 64 → F 0 j) →
      (x1 ≡ 0 → (j : ℕ) → j < 64 → F 1 j) →
      (x2 ≡ 0 → (j : ℕ) → j < 64 → F 2 j) →
      (x3 ≡ 0 → (j : ℕ) → j < 64 → F 3 j) →
      bit_or (bit_or (bit_or x0 x1) x2) x3 ≡ 0 →
      (s : ℕ) →
      s < slot_count →
      F (s / 64) (s % 64)
  each_test a b c d z s h =
      let z3 = or_none (bit_or (bit_or x0 x1) x2) x3 z in
      let z2 = or_none (bit_or x0 x1) x2 z3.0 in
      let z1 = or_none x0 x1 z2.0 in
      each_word F (a z1.0) (b z1.1) (c z2.1) (d z3.1) s h

-- a bit of one is a bit of the other
module _ (a b : List ℕ) (v : ℕ) where
  pub slot_told :
      ((s : ℕ) → s < slot_count → get_or a (s / 64) 0 / 2 ^ (s % 64) % 2 ≡ 1 → get_or b (s / 64) 0 / 2 ^ (s % 64) % 2 ≡ v) →
      (s : ℕ) →
      s < slot_count →
      bit_at a 0 s ≡ 1 →
      bit_at b 0 s ≡ v
  slot_told f s h e = at_word b s ∙ f s h (sym (at_word a s) ∙ e)

pub slot_none :
    (a : List ℕ) →
    ((s : ℕ) → s < slot_count → get_or a (s / 64) 0 / 2 ^ (s % 64) % 2 ≡ 0) →
    (s : ℕ) →
    s < slot_count →
    bit_at a 0 s ≡ 0
slot_none a f s h = at_word a s ∙ f s h

pub word_none : (w : ℕ) → w ≡ 0 → (j : ℕ) → j < 64 → w / 2 ^ j % 2 ≡ 0
word_none w z j l = ap (λ (n : ℕ). n / 2 ^ j % 2) z ∙ none_digit j

pub union_slot :
    (a b : List ℕ) (s : ℕ) →
    s < slot_count →
    bit_at
    (bit_or (get_or a 0 0) (get_or b 0 0)
    ∷ bit_or (get_or a 1 0) (get_or b 1 0)
    ∷ bit_or (get_or a 2 0) (get_or b 2 0)
    ∷ bit_or (get_or a 3 0) (get_or b 3 0)
    ∷ [])
    0
    s
    ≡ max (bit_at a 0 s) (bit_at b 0 s)
union_slot a b s h =
    let w : List ℕ =
    bit_or (get_or a 0 0) (get_or b 0 0)
    ∷ bit_or (get_or a 1 0) (get_or b 1 0)
    ∷ bit_or (get_or a 2 0) (get_or b 2 0)
    ∷ bit_or (get_or a 3 0) (get_or b 3 0)
    ∷ [] in
    at_word w s
    ∙ each_word (λ i j. get_or w i 0 / 2 ^ j % 2 ≡ max (get_or a i 0 / 2 ^ j % 2) (get_or b i 0 / 2 ^ j % 2))
    (λ j l. or_digit (get_or a 0 0) (get_or b 0 0) j)
    (λ j l. or_digit (get_or a 1 0) (get_or b 1 0) j)
    (λ j l. or_digit (get_or a 2 0) (get_or b 2 0) j)
    (λ j l. or_digit (get_or a 3 0) (get_or b 3 0) j)
    s h
    ∙ ap₂ max (sym (at_word a s)) (sym (at_word b s))
