use borrow.Author.Tests.{le-leb, lt-leb}
use Rattle.varint.proofs.last_group.Goals as goal

pub returns-then-low-top : goal.returns-then-low-top
returns-then-low-top c = simp (le-leb _ _ c.if-low-top.true)

pub returns-else-low-top : goal.returns-else-low-top
returns-else-low-top c = simp (lt-leb _ _ c.if-low-top.false)
