-- `sets::permutation::marks` meets its contract. The loop counts what it passed: with what is left of the set it makes the whole.
-- Assumes nothing.
use Prim.Native.Nat.{◌+◌, ◌≤◌}
use mathlib.Core.Path.{◌≡◌}
use lib.ListN.{length, drop}
use Rattle.records.specs.Records.{slot_count}
use Rattle.sets.specs.Sets.{size}
use Rattle.sets.proofs.permutation.marks.Given as goal

abbrev pub invariant-loop-mark : goal.invariant-loop-mark
invariant-loop-mark l =
    (l.mark-index ≤ slot_count) × (length l.mark-items ≡ slot_count) × (l.n + size (drop l.mark-index l.mark-items) ≡ size l.mark-items) × (l.n ≤ l.mark-index)
