use mathlib.Core.Path.{◌∙◌}
use native.Mathlib.Nat.{one-mul}
use lib.Pow.{shl_exact}
use Prim.Native.Nat.{◌^◌}
use native.Mathlib.Omega.{arith}
use Rattle.layout.proofs.single.Goals as goal

pub returns : goal.returns
returns c =
    shl_exact 1 c.args.s 64 (omega arith) (omega arith) ∙ one-mul (2 ^ c.args.s)
