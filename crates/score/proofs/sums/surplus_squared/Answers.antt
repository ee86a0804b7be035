-- `score::sums::surplus_squared` meets its contract. Assumes nothing.
use native.Mathlib.Omega.{arith}
use Rattle.score.proofs.BoundLaws.{squared_is}
use Rattle.score.proofs.sums.surplus_squared.Goals as goal

pub overflow_mul-result : goal.overflow_mul-result
overflow_mul-result c = omega (arith, (squared_is _ _ _ c.saturating_sub-n.ensures c.requires.0 c.requires.1).1)

pub returns : goal.returns
returns c = squared_is _ _ _ c.saturating_sub-n.ensures c.requires.0 c.requires.1
