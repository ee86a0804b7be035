-- `replies::rises_at`: the first row has none before it, and any other is compared.
use Rattle.replies.proofs.TestLaws.{step_first, step_later}
use Rattle.replies.proofs.rises_at.Goals as goal

pub returns-then-r-eq0 : goal.returns-then-r-eq0
returns-then-r-eq0 c = step_first c.args.cells.now c.args.r c.if-r-eq0.true

pub returns : goal.returns
returns c = step_later c.args.cells.now c.args.r c.if-r-eq0.false
