-- `effects::values::with_end`: the record with one end replaced.
-- Assumes nothing.
use Rattle.effects.specs.Effects.{with_end}
use Rattle.effects.proofs.values.with_end.Goals as goal

pub returns : goal.returns
unfolding with_end
returns c = rw c.later.ensures
