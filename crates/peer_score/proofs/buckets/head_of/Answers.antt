use borrow.Author.Tests.{ne_eqb}
use Rattle.peer_score.proofs.buckets.head_of.Goals as goal

pub returns-then-same-eq0 : goal.returns-then-same-eq0
returns-then-same-eq0 c = rw c.if-same-eq0.true

pub returns-else-same-eq0 : goal.returns-else-same-eq0
returns-else-same-eq0 c = rw (ne_eqb _ 0 c.if-same-eq0.false)
