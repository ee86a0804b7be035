-- `limits::field_of` meets its contract. Assumes nothing.
use Rattle.index.proofs.Kit.{arith}
use borrow.Author.Tests.{lt-ltb, le-ltb}
use Rattle.limits.proofs.field_of.Goals as goal

pub returns-then-i-lt-GENERAL : goal.returns-then-i-lt-GENERAL
returns-then-i-lt-GENERAL c = (simp (lt-ltb _ _ c.if-i-lt-GENERAL.true), omega arith)

pub returns-else-i-lt-GENERAL : goal.returns-else-i-lt-GENERAL
returns-else-i-lt-GENERAL c = (simp (le-ltb _ _ c.if-i-lt-GENERAL.false), omega arith)
