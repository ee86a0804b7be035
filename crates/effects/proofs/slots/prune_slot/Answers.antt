-- `effects::slots::prune_slot`: out of the mesh, then the end.
use Rattle.effects.specs.Effects.{pruned}
use Rattle.effects.proofs.slots.prune_slot.Goals as goal

pub returns : goal.returns
unfolding pruned
returns c = cc
