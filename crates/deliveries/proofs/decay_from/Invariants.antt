-- `deliveries::decay_from`: after `slot` turns the slots below it are decayed.
-- Assumes nothing.
use Rattle.records.specs.Records.{slot_count}
use Rattle.index.proofs.Kit.{◌≤◌, ◌≡◌, iter}
use lib.ListN.{length}
use Rattle.layout.specs.View.{cell_count, state_of}
use Rattle.rules.specs.Step.{decay_slot}
use Rattle.deliveries.proofs.decay_from.Given as goal

abbrev pub invariant-loop-slot : goal.invariant-loop-slot
invariant-loop-slot l =
    (l.slot ≤ slot_count) × (length l.table ≡ cell_count) × (state_of l.table ≡ iter l.slot (decay_slot l.time) (state_of l.initial.table))
