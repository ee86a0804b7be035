-- `stores::is_near`: each place that is looked at has the number only if it is stored.
use Rattle.index.proofs.Kit.{◌≤◌}
use Rattle.gossip.specs.Notes.{window_count}
use Rattle.stores.proofs.is_near.Given as goal

abbrev pub invariant-loop-moved : goal.invariant-loop-moved
invariant-loop-moved l = l.moved ≤ window_count
