-- `save_load::numbers::last_of`: every byte that was passed has its top bit set. Assumes nothing.
use Rattle.save_load.specs.Numbers.{Reaches}
use Rattle.save_load.proofs.numbers.last_of.Given as goal

abbrev pub invariant-loop-place : goal.invariant-loop-place
invariant-loop-place l = Reaches l.s l.at l.place
