-- `effects::slots::load_magnitude`: as loaded.
use Rattle.effects.proofs.slots.load_magnitude.Goals as goal

pub returns : goal.returns
returns c = c.load_magnitude.ensures.0
