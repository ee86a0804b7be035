-- `score::sums::capped` meets its contract. Assumes nothing.
use native.Mathlib.Omega.{arith}
use borrow.Author.Tests.{eq-eqb, ne_eqb}
use Rattle.score.specs.Sums.{capped_of}
use Rattle.score.proofs.sums.capped.Goals as goal

pub returns-then-cap-eq0 : goal.returns-then-cap-eq0
unfolding capped_of
returns-then-cap-eq0 c = (rw (eq-eqb _ 0 c.if-cap-eq0.true), c.requires.1)

pub returns-else-cap-eq0 : goal.returns-else-cap-eq0
unfolding capped_of
returns-else-cap-eq0 c = (rw (ne_eqb _ 0 c.if-cap-eq0.false) (cc), record { gain = omega arith; loss = omega arith })
