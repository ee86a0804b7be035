-- `pairs::places` meets its contract. From i on the places are filled.
-- Assumes nothing.
use Prim.Native.Nat.{◌≤◌}
use mathlib.Core.Path.{◌≡◌}
use lib.ListN.{length}
use Rattle.records.specs.Records.{slot_count}
use Rattle.pairs.proofs.PlaceLaws.{Placed}
use Rattle.pairs.proofs.places.Given as goal

abbrev pub invariant-loop-i : goal.invariant-loop-i
invariant-loop-i l =
    (l.i ≤ slot_count) × (length l.order ≡ slot_count) × (length l.r ≡ slot_count) × Placed slot_count l.order l.i l.r
