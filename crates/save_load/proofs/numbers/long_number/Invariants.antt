-- `save_load::numbers::long_number`: going back, what was read is the number from the place on (`Joining`); what is no such number is read
-- by the call. Assumes nothing.
use Rattle.save_load.proofs.NumberLaws.{Joining}
use Rattle.save_load.proofs.numbers.long_number.Given as goal

abbrev pub invariant-loop-place : goal.invariant-loop-place
invariant-loop-place l = Joining l.s l.at l.last l.place l.value
