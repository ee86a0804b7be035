-- `score::sums::p5_part` meets its contract. Assumes nothing.
use borrow.Author.Rules.{rules}
use borrow.Author.Tests.{eq-eqb, ne_eqb}
use Rattle.score.specs.Sums.{p5_of}
use Rattle.score.proofs.sums.p5_part.Goals as goal

pub returns-then-code-eq1 : goal.returns-then-code-eq1
unfolding p5_of
returns-then-code-eq1 c = (rw (eq-eqb _ 1 c.if-code-eq1.true) (cc), search rules)

pub returns-else-code-eq1 : goal.returns-else-code-eq1
unfolding p5_of
returns-else-code-eq1 c = (rw (ne_eqb _ 1 c.if-code-eq1.false) (cc), search rules)
