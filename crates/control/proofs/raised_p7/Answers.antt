-- `control::raised_p7`: the record with the counter that `raised` gives.
-- Assumes nothing.
use Rattle.rules.specs.Step.{raised_p7}
use Rattle.control.proofs.raised_p7.Goals as goal

pub returns : goal.returns
unfolding raised_p7
returns c = cc
