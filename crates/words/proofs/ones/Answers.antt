-- `words::ones` meets its contract.
-- Assumes nothing.
use native.Mathlib.Omega.{arith}
use lib.Count.{ones-le}
use Rattle.words.specs.Words.{word_bits}
use Rattle.words.proofs.BitLaws.{bits_ones}
use Rattle.words.proofs.ones.Goals as goal

pub overflow_cast-result : goal.overflow_cast-result
overflow_cast-result c = omega (arith, ones-le word_bits c.args.w (omega arith))

pub returns : goal.returns
returns c = bits_ones word_bits c.args.w (omega arith)
