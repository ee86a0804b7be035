-- `words::differ` meets its contract. The loop builds the words from the front.
-- Assumes nothing.
use mathlib.Core.Path.{◌≡◌}
use lib.ListN.{length, get_or}
use lib.Bits.{bit_xor}
use Rattle.index.proofs.Lists.{Built}
use Rattle.words.specs.Words.{word_count}
use Rattle.words.proofs.differ.Given as goal

abbrev pub invariant-loop-i : goal.invariant-loop-i
invariant-loop-i l =
    (length l.a ≡ word_count) × (length l.b ≡ word_count) × Built 0 (λ k. bit_xor (get_or l.a k 0) (get_or l.b k 0)) word_count l.i l.r
