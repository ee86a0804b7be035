-- `effects::connections::reclaimable`: the same tests, bracketed alike.
-- Assumes nothing.
use Rattle.effects.specs.Effects.{reclaimable}
use Rattle.effects.proofs.connections.reclaimable.Goals as goal

pub returns : goal.returns
unfolding reclaimable
returns c = rw c.backoffs_over.ensures
