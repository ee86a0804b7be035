-- `effects::slots::take_out`: the bit goes.
use Rattle.effects.proofs.EffectLaws.{out_stored}
use Rattle.effects.proofs.slots.take_out.Goals as goal

pub returns : goal.returns
returns c = out_stored _ _ _ c.leave_mesh.ensures
