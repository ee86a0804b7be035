-- `save_load::ranges::fill_most`: after t topics the ranges are filled so far (`Filled`). Assumes nothing.
use Rattle.save_load.proofs.RangeLaws.{Filled}
use Rattle.save_load.proofs.ranges.fill_most.Given as goal

abbrev pub invariant-loop-t : goal.invariant-loop-t
invariant-loop-t l = Filled l.codes l.t l.initial.most l.most
