-- `words::with_bit` meets its contract.
-- Assumes nothing.
use native.Mathlib.Omega.{arith}
use Rattle.words.specs.Words.{word_bits}
use Rattle.words.proofs.BitLaws.{word_put, word_drop}
use Rattle.words.proofs.with_bit.Goals as goal

pub returns-then-b : goal.returns-then-b
returns-then-b c = word_put word_bits _ _ _ _ (omega arith) c.single.ensures c.if-b.true

pub returns-else-b : goal.returns-else-b
returns-else-b c = word_drop word_bits _ _ _ _ (omega arith) c.single-else-b.ensures c.if-b.false
