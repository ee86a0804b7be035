use mathlib.Core.Path.{refl}
use Rattle.layout.specs.View.{bit_at}
use native.Mathlib.Omega.{arith}
use Rattle.layout.proofs.bit.Goals as goal

pub returns : goal.returns
unfolding bit_at
returns c =
    (refl, omega arith)
