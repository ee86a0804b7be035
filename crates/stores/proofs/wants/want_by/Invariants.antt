-- `stores::wants::want_by`: the list has those wanted of the numbers so far, and the flags are up for these and for those
-- that are stored. Assumes nothing.
use Prim.Native.Nat.{◌≤◌}
use mathlib.Core.List.{[]}
use lib.ListN.{length, take}
use Rattle.gossip.specs.Step.{wanted}
use Rattle.stores.specs.Marks.{Listed}
use Rattle.stores.specs.View.{stored_at}
use Rattle.stores.proofs.wants.want_by.Given as goal

abbrev pub invariant-loop-n : goal.invariant-loop-n
invariant-loop-n l =
    (l.n-index ≤ length l.numbers) × (l.size ≤ l.n-index)
    × Listed (stored_at l.cells) l.rising (wanted (stored_at l.cells) [] (take l.n-index l.numbers)) l.known l.initial.list l.list l.size
