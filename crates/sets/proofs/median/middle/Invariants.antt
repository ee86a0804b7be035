-- `sets::median::middle` meets its contract. The loop keeps, by slot, the greatest member's score that has few below it.
-- Assumes nothing.
use Prim.Native.Nat.{◌≤◌}
use mathlib.Core.Path.{◌≡◌}
use lib.ListN.{length}
use Rattle.records.specs.Records.{slot_count}
use Rattle.words.specs.Words.{bits_of}
use Rattle.sets.proofs.MedianLaws.{Kept}
use Rattle.sets.proofs.median.middle.Given as goal

abbrev pub invariant-loop-i : goal.invariant-loop-i
invariant-loop-i l =
    (l.i ≤ slot_count) × (length (bits_of l.m) ≡ slot_count) × (length l.scores ≡ slot_count) × Kept l.k (bits_of l.m) l.scores l.i l.r
