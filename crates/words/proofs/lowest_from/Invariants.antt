-- `words::lowest_from`: the words passed are 0.
use Prim.Native.Nat.{◌*◌, ◌≤◌}
use mathlib.Core.Path.{◌≡◌}
use lib.ListN.{length}
use Rattle.words.specs.Words.{word_bits, word_count, bits_of}
use Rattle.words.proofs.NextLaws.{Clear}
use Rattle.words.proofs.lowest_from.Given as goal

abbrev pub invariant-loop-k : goal.invariant-loop-k
invariant-loop-k l = (l.i ≤ l.k) × (l.k ≤ word_count) × (length l.m ≡ word_count) × Clear (bits_of l.m) (word_bits * l.i) (word_bits * l.k)
