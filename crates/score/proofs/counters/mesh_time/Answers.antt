-- `score::counters::mesh_time` meets its contract. Assumes nothing.
use borrow.Author.Tests.{eq-eqb, ne_eqb}
use Rattle.score.specs.Counters.{mesh_of}
use Rattle.score.proofs.counters.mesh_time.Goals as goal

pub returns-then-r-eq1 : goal.returns-then-r-eq1
unfolding mesh_of
returns-then-r-eq1 c = rw (eq-eqb _ 1 c.if-r-eq1.true) c.saturating_sub.ensures

pub returns-else-r-eq1 : goal.returns-else-r-eq1
unfolding mesh_of
returns-else-r-eq1 c = rw (ne_eqb _ 1 c.if-r-eq1.false)
