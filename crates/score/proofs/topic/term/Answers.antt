-- `score::topic::term` meets its contract. Assumes nothing.
use native.Mathlib.Omega.{arith}
use mathlib.Core.Path.{refl}
use native.Mathlib.Nat.{mul-le-mul}
use Rattle.score.proofs.topic.term.Goals as goal

pub overflow_mul-result : goal.overflow_mul-result
overflow_mul-result c = omega (arith, mul-le-mul c.requires.0 c.requires.1)

pub returns : goal.returns
returns c = (refl, mul-le-mul c.requires.0 c.requires.1)
