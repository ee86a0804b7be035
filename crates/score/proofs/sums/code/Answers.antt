-- `score::sums::code` meets its contract. Assumes nothing.
use Rattle.score.proofs.SumLaws.{lost_code, gained_code}
use Rattle.score.proofs.sums.code.Goals as goal

pub returns-then-b : goal.returns-then-b
returns-then-b c = lost_code _ c.if-b.true

pub returns-else-b : goal.returns-else-b
returns-else-b c = gained_code _ c.if-b.false
