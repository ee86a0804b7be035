use Prim.Native.Nat.{◌^◌}
use native.Mathlib.Nat.{one-mul}
use native.Mathlib.Omega.{arith}
use mathlib.Core.Path.{◌∙◌}
use lib.Pow.{shl_exact}
use Rattle.marks.specs.Marks.{word_bits}
use Rattle.marks.proofs.single.Goals as goal

pub returns : goal.returns
returns c = shl_exact 1 c.args.k word_bits (omega arith) (omega arith) ∙ one-mul (2 ^ c.args.k)
