-- `deliveries::busy`: after `topic` turns the topics below it are asked.
-- Assumes nothing.
use Rattle.index.proofs.Kit.{◌≤◌}
use Rattle.layout.specs.View.{state_of}
use Rattle.deliveries.specs.Decays.{IdleBelow}
use Rattle.deliveries.proofs.busy.Given as goal

abbrev pub invariant-loop-topic : goal.invariant-loop-topic
invariant-loop-topic l = (l.topic ≤ 8) × IdleBelow (state_of l.table) l.slot l.topic l.w
