-- `trace_events::reading::arity` meets its contract. Assumes nothing.
use Rattle.trace_events.specs.Reading.{arities}
use Rattle.trace_events.proofs.ReadingLaws.{arity_connect, arity_other, arity_past, as_arity}
use Rattle.trace_events.proofs.reading.arity.Goals as goal

pub returns-then-kind-eq1 : goal.returns-then-kind-eq1
returns-then-kind-eq1 c = as_arity _ _ _ (arity_connect _ _ _ c.if-kind-eq1.true c.connect_size.ensures)

pub returns-then-kind-lt14 : goal.returns-then-kind-lt14
unfolding arities
returns-then-kind-lt14 c = as_arity _ _ _ (arity_other _ _ c.if-kind-eq1.false)

pub returns : goal.returns
returns c = as_arity _ _ _ (arity_past _ _ c.if-kind-lt14.false)
