-- `message_ids::row_of` meets its contract: the loop's invariant is `Halved`: rows below `low` come before the id, those from `high` on
-- after it. Assumes nothing.
use Rattle.index.proofs.Kit.{◌-◌}
use Rattle.message_ids.proofs.FindLaws.{Halved}
use Rattle.message_ids.proofs.row_of.Given as goal

abbrev pub invariant-loop-low : goal.invariant-loop-low
invariant-loop-low l = Halved l.ids l.s l.start l.size l.rows l.low l.high

abbrev pub decreases-loop-low : goal.decreases-loop-low
decreases-loop-low l = l.high - l.low
