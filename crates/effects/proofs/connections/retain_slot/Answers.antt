-- `effects::connections::retain_slot`: the record loaded, changed and stored.
use mathlib.Core.Path.{◌∙◌}
use Rattle.effects.proofs.EffectLaws.{retained_fits}
use Rattle.effects.proofs.connections.retain_slot.Goals as goal

pub store_peer-requires : goal.store_peer-requires
store_peer-requires c =
    let k = c.leave_topics in
    (k.auto.table ∙ c.requires.size, (c.requires.slot, retained_fits _ _ _ c.load_peer-p.ensures.1 c.retained_to.ensures))

pub returns : goal.returns
returns c = cc
