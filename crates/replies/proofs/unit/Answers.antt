-- `replies::unit`: nothing is shifted out.
use Prim.Native.Nat.{◌*◌, ◌^◌}
use mathlib.Core.Path.{◌∙◌}
use native.Mathlib.Nat.{one-mul}
use native.Mathlib.Omega.{arith}
use lib.Pow.{shl_exact}
use Rattle.replies.proofs.unit.Goals as goal

pub returns : goal.returns
returns c = shl_exact 1 (6 * c.args.j) 64 (omega arith) (omega arith) ∙ one-mul (2 ^ (6 * c.args.j))
