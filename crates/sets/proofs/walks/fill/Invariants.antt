-- `sets::walks::fill` meets its contract. The loop has the rest of the walk still to do.
-- Assumes nothing.
use Prim.Native.Nat.{◌≤◌}
use mathlib.Core.Path.{◌≡◌}
use lib.ListN.{length, drop}
use Rattle.words.specs.Words.{word_count, bits_of}
use Rattle.sets.specs.Sets.{fill}
use Rattle.sets.proofs.walks.fill.Given as goal

abbrev pub invariant-loop-s : goal.invariant-loop-s
invariant-loop-s l =
    (l.s-index ≤ length l.order)
    × (fill (bits_of l.p) l.room (drop l.s-index l.order) (bits_of l.r) ≡ fill (bits_of l.p) l.initial.room l.order (bits_of l.initial.r))
    × (length l.r ≡ word_count)
