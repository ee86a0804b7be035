-- `effects::slots::graft_slot`: the times and the bit.
use Rattle.effects.proofs.EffectLaws.{into_stored}
use Rattle.effects.proofs.slots.graft_slot.Goals as goal

pub returns : goal.returns
returns c = into_stored _ _ _ _ c.enter_mesh.ensures
