-- `words::flags::flag` meets its contract.
-- Assumes nothing.
use Rattle.words.proofs.BitLaws.{flag_in, flag_out}
use Rattle.words.proofs.flags.flag.Goals as goal

pub returns-then-b : goal.returns-then-b
returns-then-b c = flag_in _ _ _ c.if-b.true c.single.ensures

pub returns-else-b : goal.returns-else-b
returns-else-b c = flag_out _ _ c.if-b.false
