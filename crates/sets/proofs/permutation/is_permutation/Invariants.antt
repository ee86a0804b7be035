-- `sets::permutation::is_permutation` meets its contract. The loop has the rest of the list still to mark.
-- Assumes nothing.
use Prim.Native.Nat.{◌≤◌}
use mathlib.Core.Path.{◌≡◌}
use mathlib.Core.Bool.{false}
use lib.ListN.{length, drop, replicate}
use Rattle.records.specs.Records.{slot_count}
use Rattle.sets.proofs.PermutationLaws.{marked}
use Rattle.sets.proofs.permutation.is_permutation.Given as goal

abbrev pub invariant-loop-s : goal.invariant-loop-s
invariant-loop-s l =
    (l.s-index ≤ slot_count)
    × (length l.p ≡ slot_count)
    × (length l.seen ≡ slot_count)
    × (marked (drop l.s-index l.p) l.seen ≡ marked l.p (replicate slot_count false))
