-- `effects::slots::subscribe_slot`: the bit.
use Rattle.effects.proofs.EffectLaws.{subscribed_stored}
use Rattle.effects.proofs.slots.subscribe_slot.Goals as goal

pub returns : goal.returns
returns c = subscribed_stored _ _ _ _ c.store_subscribed.ensures
