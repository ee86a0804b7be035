-- `score::sums::p7_part` meets its contract. Assumes nothing.
use native.Mathlib.Omega.{arith}
use Rattle.score.proofs.sums.p7_part.Goals as goal

pub returns : goal.returns
returns c = (cc, omega arith)
