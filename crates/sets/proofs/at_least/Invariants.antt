-- `sets::at_least` meets its contract. The loop builds the flags from the front, and they are packed.
-- Assumes nothing.
use mathlib.Core.Path.{◌≡◌}
use mathlib.Core.Bool.{false}
use lib.ListN.{length, get_or}
use lib.Dec.{leb}
use Rattle.records.specs.Records.{slot_count}
use Rattle.index.proofs.Lists.{Built}
use Rattle.sets.proofs.at_least.Given as goal

abbrev pub invariant-loop-i : goal.invariant-loop-i
invariant-loop-i l = (length l.scores ≡ slot_count) × Built false (λ k. leb l.x (get_or l.scores k 0)) slot_count l.i l.r
