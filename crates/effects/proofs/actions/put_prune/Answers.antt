-- `effects::actions::put_prune`: casts that lose nothing, and the numbers of one action.
-- Assumes nothing.
use mathlib.Core.Path.{refl}
use Rattle.effects.specs.Actions.{numbers_of}
use Rattle.effects.proofs.actions.put_prune.Goals as goal

pub returns : goal.returns
unfolding numbers_of
returns c = (refl, rw (← c.told-length.ensures) c.put_numbers.ensures)
