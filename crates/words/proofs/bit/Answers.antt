-- `words::bit` meets its contract.
-- Assumes nothing.
use mathlib.Core.Path.{sym}
use Rattle.words.specs.Words.{word_bits}
use Rattle.words.proofs.BitLaws.{bits_at}
use Rattle.words.proofs.bit.Goals as goal

pub returns : goal.returns
returns c = sym (bits_at c.args.s word_bits c.args.w c.requires)
