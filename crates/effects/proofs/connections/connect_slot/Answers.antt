-- `effects::connections::connect_slot`: the record loaded, changed and stored.
use Rattle.effects.proofs.EffectLaws.{connected_fits}
use Rattle.effects.proofs.connections.connect_slot.Goals as goal

pub store_peer-requires : goal.store_peer-requires
store_peer-requires c = (
  c.requires.0.size,
  (c.requires.0.slot, connected_fits _ _ _ _ _ _ c.load_peer-p.ensures.1 c.requires.1 c.connected_as.ensures),
)

pub returns : goal.returns
returns c = cc
