-- `control::is_crowded`: D_hi and the size of the mesh, as they were read.
-- Assumes nothing.
use Rattle.rules.specs.Step.{is_crowded}
use Rattle.control.proofs.is_crowded.Goals as goal

pub returns : goal.returns
unfolding is_crowded
returns c = cc
