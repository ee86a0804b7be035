-- `sets::walks::last_of` meets its contract. The loop has the rest of the walk still to do.
-- Assumes nothing.
use Prim.Native.Nat.{◌≤◌}
use mathlib.Core.Path.{◌≡◌}
use lib.ListN.{length, drop}
use Rattle.records.specs.Records.{slot_count}
use Rattle.words.specs.Words.{bits_of}
use Rattle.sets.specs.Sets.{last_of}
use Rattle.sets.proofs.walks.last_of.Given as goal

abbrev pub invariant-loop-next : goal.invariant-loop-next
invariant-loop-next l =
    (l.next-index ≤ length l.order)
    × (last_of (bits_of l.p) (drop l.next-index l.order) l.last ≡ last_of (bits_of l.p) l.order slot_count)
