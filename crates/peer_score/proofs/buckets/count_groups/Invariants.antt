-- `peer_score::buckets::count_groups`: the connected slots below those that are left are counted.
use Rattle.index.proofs.Kit.{◌≡◌}
use Rattle.layout.specs.View.{state_of}
use Rattle.peer_score.specs.Buckets.{Tells, below, pairs}
use Rattle.peer_score.proofs.buckets.count_groups.Given as goal

abbrev pub invariant-loop-slot : goal.invariant-loop-slot
invariant-loop-slot l =
    (l.slot-iterator.set ≡ l.initial.slot-iterator.set)
    × Tells (below (state_of l.table) l.slot-iterator.from) (pairs l.slot-iterator.from) l.buckets
