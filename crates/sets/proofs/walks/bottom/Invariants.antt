-- `sets::walks::bottom` meets its contract. The loop has the rest of the walk still to do.
-- Assumes nothing.
use Prim.Native.Nat.{◌≤◌}
use mathlib.Core.Path.{◌≡◌}
use lib.ListN.{length, drop}
use Rattle.records.specs.Records.{slot_count}
use Rattle.words.specs.Words.{bits_of}
use Rattle.sets.specs.Sets.{bottom}
use Rattle.sets.proofs.walks.bottom.Given as goal

abbrev pub invariant-loop-s : goal.invariant-loop-s
invariant-loop-s l =
    (l.s-index ≤ length l.order)
    × (bottom slot_count l.scores (bits_of l.p) (drop l.s-index l.order) l.low ≡ bottom slot_count l.scores (bits_of l.p) l.order slot_count)
