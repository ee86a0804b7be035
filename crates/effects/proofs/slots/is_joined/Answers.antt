-- `effects::slots::is_joined`: the flag as loaded.
-- Assumes nothing.
use Rattle.effects.proofs.slots.is_joined.Goals as goal

pub returns : goal.returns
returns c = rw c.load_joined.ensures
