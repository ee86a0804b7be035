-- `words::size` meets its contract. n counts the slots of the words passed.
-- Assumes nothing.
use Prim.Native.Nat.{◌*◌, ◌≤◌}
use mathlib.Core.Path.{◌≡◌}
use mathlib.Core.Bool.{false}
use lib.ListN.{length, get_or}
use Rattle.index.specs.Index.{count}
use Rattle.words.specs.Words.{word_bits, word_count, bits_of}
use Rattle.words.proofs.size.Given as goal

abbrev pub invariant-loop-w : goal.invariant-loop-w
invariant-loop-w l =
    (l.w-index ≤ word_count) × (length l.w-items ≡ word_count) × (l.n ≤ word_bits * l.w-index)
    × (l.n ≡ count (word_bits * l.w-index) (λ s. get_or (bits_of l.w-items) s false))
