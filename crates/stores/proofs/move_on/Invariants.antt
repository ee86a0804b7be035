-- `stores::move_on`: after t turns the first t topics have a new heartbeat, and the others none. Assumes nothing.
use Prim.Native.Nat.{◌≤◌}
use Rattle.records.specs.Records.{topic_count}
use Rattle.stores.specs.View.{MovedTo}
use Rattle.stores.proofs.move_on.Given as goal

abbrev pub invariant-loop-t : goal.invariant-loop-t
invariant-loop-t l = (l.t ≤ topic_count) × MovedTo l.initial.cells l.cells l.t
