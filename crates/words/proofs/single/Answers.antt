-- `words::single` meets its contract.
-- Assumes nothing.
use native.Mathlib.Omega.{arith}
use native.Mathlib.Nat.{one-mul}
use mathlib.Core.Path.{◌∙◌}
use lib.Pow.{shl_exact}
use Prim.Native.Nat.{◌^◌}
use Rattle.words.specs.Words.{word_bits}
use Rattle.words.proofs.single.Goals as goal

pub returns : goal.returns
returns c = shl_exact 1 c.args.s word_bits (omega arith) (omega arith) ∙ one-mul (2 ^ c.args.s)
