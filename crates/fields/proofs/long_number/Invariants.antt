-- `fields::long_number` meets its contract: going back from the last byte, what was read is the number from the place on.
-- Assumes nothing.
use Rattle.fields.proofs.NumberLaws.{Joining}
use Rattle.fields.proofs.long_number.Given as goal

abbrev pub invariant-loop-place : goal.invariant-loop-place
invariant-loop-place l = Joining l.s l.at l.end l.place l.value

abbrev pub decreases-loop-place : goal.decreases-loop-place
decreases-loop-place l = l.place
