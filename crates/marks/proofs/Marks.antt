-- A mark stays where another bucket is marked, and the new one is there: a word's union with a bit keeps every bit that it has.
-- Assumes nothing.
use Prim.Native.Nat.{ℕ, ◌<◌, ◌/◌, ◌%◌, ◌^◌}
use native.Mathlib.Nat.{mod-lt, one-mul, zero-lt-suc}
use native.Mathlib.Omega.{arith}
use mathlib.Core.Bool.{true}
use mathlib.Core.List.{List}
use mathlib.Core.Path.{◌≡◌, sym, ap, ◌∙◌}
use lib.Bits.{bit_or, or_add_and, and_le_l, and_le_r, or_lt, or_mod, or_shr}
use lib.Dec.{eqb}
use lib.ListN.{length, get_or, length-set}
use lib.Pow.{shl-shr}
use lib.Seq.{get_or-set_same}
use borrow.Author.Tests.{eqb-true, eq-eqb}
use Rattle.index.proofs.Lists.{set_case}
use Rattle.marks.specs.Marks.{bucket_count, word_bits, word_count, is_marked, marked}

-- a union is odd where one of the two is
odd_left : (x y : ℕ) → x % 2 ≡ 1 → bit_or x y % 2 ≡ 1
odd_left x y e =
    or_mod x y 1
    ∙ omega (
      arith,
      e,
      or_add_and (x % 2) (y % 2),
      and_le_r (x % 2) (y % 2),
      or_lt 1 (x % 2) (y % 2) (mod-lt x (zero-lt-suc 1)) (mod-lt y (zero-lt-suc 1)),
    )

odd_right : (x y : ℕ) → y % 2 ≡ 1 → bit_or x y % 2 ≡ 1
odd_right x y e =
    or_mod x y 1
    ∙ omega (
      arith,
      e,
      or_add_and (x % 2) (y % 2),
      and_le_l (x % 2) (y % 2),
      or_lt 1 (x % 2) (y % 2) (mod-lt x (zero-lt-suc 1)) (mod-lt y (zero-lt-suc 1)),
    )

module _ (seen : List ℕ) (b : ℕ) where
  -- words stay as many
  pub mark_size : length (marked seen b) ≡ length seen
  unfolding marked
  mark_size = length-set seen _ _

  -- a mark stays
  pub mark_stays : (k : ℕ) → is_marked seen k ≡ true → is_marked (marked seen b) k ≡ true
  unfolding is_marked marked
  mark_stays k m =
      let j = k % word_bits in
      set_case (λ (w : ℕ). eqb (w / 2 ^ j % 2) 1 ≡ true) seen (b / word_bits) (k / word_bits) _ 0
      (λ e.
      let o : get_or seen (b / word_bits) 0 / 2 ^ j % 2 ≡ 1 = rw (← e) (eqb-true (get_or seen (k / word_bits) 0 / 2 ^ j % 2) 1 m) in
      eq-eqb _ 1
      (ap (λ (x : ℕ). x % 2) (or_shr (get_or seen (b / word_bits) 0) (2 ^ (b % word_bits)) j)
      ∙ odd_left (get_or seen (b / word_bits) 0 / 2 ^ j) (2 ^ (b % word_bits) / 2 ^ j) o))
      m

  -- and the new one is there
  pub mark_here : length seen ≡ word_count → b < bucket_count → is_marked (marked seen b) b ≡ true
  unfolding is_marked marked
  mark_here l h =
      let j = b % word_bits in
      let w = get_or seen (b / word_bits) 0 in
      let p : 2 ^ j / 2 ^ j ≡ 1 = ap (λ (x : ℕ). x / 2 ^ j) (sym (one-mul (2 ^ j))) ∙ shl-shr 1 j in
      eq-eqb _ 1
      (ap (λ (x : ℕ). x / 2 ^ j % 2) (get_or-set_same seen (b / word_bits) (bit_or w (2 ^ j)) 0 (omega (arith, l, h)))
      ∙ ap (λ (x : ℕ). x % 2) (or_shr w (2 ^ j) j)
      ∙ odd_right (w / 2 ^ j) (2 ^ j / 2 ^ j) (ap (λ (x : ℕ). x % 2) p))
