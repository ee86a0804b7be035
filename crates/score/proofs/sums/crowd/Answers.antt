-- `score::sums::crowd` meets its contract. Assumes nothing.
use native.Mathlib.Omega.{arith}
use Rattle.score.specs.Parts.{crowd_of}
use Rattle.score.proofs.sums.crowd.Goals as goal

pub returns : goal.returns
unfolding crowd_of
returns c = (cc, omega arith)
