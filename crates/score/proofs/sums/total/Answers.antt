-- `score::sums::total` meets its contract. Assumes nothing.
use native.Mathlib.Omega.{arith}
use Rattle.score.specs.Sums.{total_of}
use Rattle.score.proofs.sums.total.Goals as goal

pub returns : goal.returns
unfolding total_of
returns c = (cc, record { gain = omega arith; loss = omega arith })
