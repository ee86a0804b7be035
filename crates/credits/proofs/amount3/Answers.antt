-- `credits::amount3` meets its contract.
-- Assumes nothing.
use Rattle.index.proofs.Kit.{arith}
use borrow.Author.Tests.{eq-eqb, ne_eqb}
use Rattle.credits.proofs.CreditLaws.{member_amount, other_amount}
use Rattle.credits.proofs.amount3.Goals as goal

pub returns-then-r-eq1 : goal.returns-then-r-eq1
returns-then-r-eq1 c = (member_amount _ _ _ (eq-eqb _ 1 c.if-r-eq1.true) c.amount.ensures.0, c.amount.ensures.1)

pub returns-else-r-eq1 : goal.returns-else-r-eq1
returns-else-r-eq1 c = (other_amount _ _ (ne_eqb _ 1 c.if-r-eq1.false), omega arith)
