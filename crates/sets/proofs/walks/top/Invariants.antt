-- `sets::walks::top` meets its contract. The loop has the rest of the walk still to do.
-- Assumes nothing.
use Prim.Native.Nat.{◌≤◌}
use mathlib.Core.Path.{◌≡◌}
use lib.ListN.{length, get_or, drop}
use Rattle.records.specs.Records.{slot_count}
use Rattle.words.specs.Words.{bits_of}
use Rattle.sets.specs.Sets.{top}
use Rattle.sets.proofs.walks.top.Given as goal

abbrev pub invariant-loop-s : goal.invariant-loop-s
invariant-loop-s l =
    (l.s-index ≤ length l.order)
    × (top slot_count l.scores (bits_of l.p) (drop l.s-index l.order) l.best ≡ top slot_count l.scores (bits_of l.p) l.order slot_count)
    × (l.high ≡ get_or l.scores l.best 0)
