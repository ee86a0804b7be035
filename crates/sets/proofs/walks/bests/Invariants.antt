-- `sets::walks::bests` meets its contract. The loop has the best that are left still to take.
-- Assumes nothing.
use Prim.Native.Nat.{◌-◌}
use mathlib.Core.Path.{◌≡◌}
use mathlib.Core.Bool.{false}
use lib.ListN.{replicate}
use Rattle.records.specs.Records.{slot_count}
use Rattle.words.specs.Words.{bits_of}
use Rattle.sets.specs.Sets.{bests}
use Rattle.sets.proofs.walks.bests.Given as goal

abbrev pub invariant-loop-pick : goal.invariant-loop-pick
invariant-loop-pick l =
    bests slot_count l.scores (bits_of l.m) l.order (l.k - l.pick) (bits_of l.b)
    ≡ bests slot_count l.scores (bits_of l.m) l.order l.k (replicate slot_count false)
