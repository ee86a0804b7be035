-- Sets as words: the count, what two sets share and what one has beyond the other, by the laws of one bit.
-- Assumes nothing.
use Prim.Native.Nat.{ℕ, ◌*◌, ◌/◌, ◌%◌, ◌-◌, ◌^◌, ◌<◌}
use native.Mathlib.Omega.{arith}
use mathlib.Core.Path.{◌≡◌, sym, ap₂, ◌∙◌}
use mathlib.Core.Bool.{Bool, false, not, ◌&&◌}
use mathlib.Core.List.{List}
use lib.ListN.{length, get_or}
use lib.Seq.{ext_get_or}
use lib.Bits.{bit_and}
use Rattle.index.specs.Index.{count}
use Rattle.words.specs.Words.{word_bits, bits, bits_of}
use Rattle.words.proofs.BitLaws.{and_at, except_at as bit-except-at}
use Rattle.words.proofs.WideLaws.{bits_of_length, at_slot}
use Rattle.sets.specs.Sets.{size, both, except}
use Rattle.sets.proofs.WalkLaws.{both_at, both_length, except_at, except_length}
use Rattle.sets.proofs.SlotLaws.{size_count}

pub size_words : (m : List ℕ) (n r : ℕ) → word_bits * length m ≡ n → r ≡ count n (λ s. get_or (bits_of m) s false) → r ≡ size (bits_of m)
size_words m n r l e = e ∙ sym (size_count (bits_of m) n (bits_of_length m ∙ l))

module _ (a b r : List ℕ) (n : ℕ) (la : length a ≡ n) (lb : length b ≡ n) (lr : length r ≡ n) where
  same_length : length (bits_of r) ≡ length (bits_of a)
  same_length = let x = bits_of_length r in let y = bits_of_length a in omega arith

  pub both_words : ((k : ℕ) → k < n → get_or r k 0 ≡ bit_and (get_or a k 0) (get_or b k 0)) → bits_of r ≡ both (bits_of a) (bits_of b)
  both_words h =
      let x = bits_of_length a in
      let y = bits_of_length b in
      let z = bits_of_length r in
      ext_get_or false (bits_of r) (both (bits_of a) (bits_of b))
      (same_length ∙ sym (both_length (bits_of a) (bits_of b) (omega arith)))
      (λ s l.
      sym (at_slot r s (omega arith))
      ∙ one s (h (s / word_bits) (omega arith))
      ∙ and_at word_bits (get_or a (s / word_bits) 0) (get_or b (s / word_bits) 0) (s % word_bits)
      ∙ ap₂ (λ (p q : Bool). p && q) (at_slot a s (omega arith)) (at_slot b s (omega arith))
      ∙ sym (both_at (bits_of a) (bits_of b) s))
    where
      one :
          (s : ℕ) {v w : ℕ} → v ≡ w → get_or (bits word_bits v) (s % word_bits) false ≡ get_or (bits word_bits w) (s % word_bits) false
      one s e = rw e

  pub except_words :
      ((k : ℕ) → k < n → get_or r k 0 ≡ bit_and (get_or a k 0) (2 ^ word_bits - 1 - get_or b k 0)) →
      ((k : ℕ) → get_or b k 0 < 2 ^ word_bits) →
      bits_of r ≡ except (bits_of a) (bits_of b)
  except_words h f =
      let x = bits_of_length a in
      let y = bits_of_length b in
      let z = bits_of_length r in
      ext_get_or false (bits_of r) (except (bits_of a) (bits_of b))
      (same_length ∙ sym (except_length (bits_of a) (bits_of b)))
      (λ s l.
      sym (at_slot r s (omega arith))
      ∙ one s (h (s / word_bits) (omega arith))
      ∙ bit-except-at word_bits (get_or a (s / word_bits) 0) (get_or b (s / word_bits) 0) (s % word_bits) (f (s / word_bits))
      ∙ ap₂ (λ (p q : Bool). p && not q) (at_slot a s (omega arith)) (at_slot b s (omega arith))
      ∙ sym (except_at (bits_of a) (bits_of b) s))
    where
      one :
          (s : ℕ) {v w : ℕ} → v ≡ w → get_or (bits word_bits v) (s % word_bits) false ≡ get_or (bits word_bits w) (s % word_bits) false
      one s e = rw e
