-- `score::counters::faded` meets its contract. Assumes nothing.
use borrow.Author.Tests.{lt-ltb, le-ltb}
use mathlib.Core.Path.{sym, ap, ◌∙◌}
use Rattle.score.specs.Counters.{faded_of}
use Rattle.score.proofs.CounterLaws.{faded_nothing}
use Rattle.score.proofs.counters.faded.Goals as goal

pub returns-then-x-eq0 : goal.returns-then-x-eq0
returns-then-x-eq0 c = sym (ap (faded_of _ _) c.if-x-eq0.true ∙ faded_nothing _ _)

pub returns-then-y-floor : goal.returns-then-y-floor
unfolding faded_of
returns-then-y-floor c = rw (← c.scaled-y.ensures, lt-ltb _ _ c.if-y-floor.true)

pub returns-else-y-floor : goal.returns-else-y-floor
unfolding faded_of
returns-else-y-floor c = rw (← c.scaled-y.ensures, le-ltb _ _ c.if-y-floor.false)
