-- `message_ids::number_row` meets its contract: the loop's invariant is `Parted`: places below `low` have smaller numbers, those from
-- `high` on greater ones. Assumes nothing.
use Rattle.index.proofs.Kit.{◌-◌}
use Rattle.message_ids.proofs.FindLaws.{Parted}
use Rattle.message_ids.proofs.number_row.Given as goal

abbrev pub invariant-loop-low : goal.invariant-loop-low
invariant-loop-low l = Parted l.numbers l.order l.v l.low l.high

abbrev pub decreases-loop-low : goal.decreases-loop-low
decreases-loop-low l = l.high - l.low
