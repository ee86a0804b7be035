-- `deliveries::decay_topics`: before the turn of a topic those below it are decayed; a topic that has no turn is idle.
-- Assumes nothing.
use Rattle.index.proofs.Kit.{◌≤◌, ◌-◌, ◌≡◌, iter}
use lib.ListN.{length}
use Rattle.layout.specs.View.{cell_count, state_of}
use Rattle.rules.specs.Step.{decay_topic}
use Rattle.deliveries.proofs.decay_topics.Given as goal

abbrev pub invariant-loop-topic : goal.invariant-loop-topic
invariant-loop-topic l =
    (l.topic ≤ 8) × (length l.table ≡ cell_count) × (state_of l.table ≡ iter l.topic (decay_topic l.time l.slot) (state_of l.initial.table))

abbrev pub decreases-loop-topic : goal.decreases-loop-topic
decreases-loop-topic l = 8 - l.topic
