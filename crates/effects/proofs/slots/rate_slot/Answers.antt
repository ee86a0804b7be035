-- `effects::slots::rate_slot`: the record loaded, changed and stored.
use Rattle.effects.proofs.EffectLaws.{p5_fits}
use Rattle.effects.proofs.slots.rate_slot.Goals as goal

pub store_peer-requires : goal.store_peer-requires
store_peer-requires c =
    (c.requires.0.size, (c.requires.0.slot, p5_fits _ _ _ c.load_peer-p.ensures.1 c.requires.1 c.with_p5.ensures))

pub returns : goal.returns
returns c = cc
