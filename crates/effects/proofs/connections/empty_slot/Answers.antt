-- `effects::connections::empty_slot`: the topics, then the peer.
-- Assumes nothing.
use mathlib.Core.Path.{ap, ◌∙◌}
use Rattle.records.specs.Records.{State, no_peer, set_peer}
use Rattle.effects.specs.Effects.{emptied}
use Rattle.effects.proofs.EffectLaws.{none_fits}
use Rattle.effects.proofs.connections.empty_slot.Goals as goal

pub store_peer-requires : goal.store_peer-requires
store_peer-requires c =
    (c.empty_topics.auto.table ∙ c.requires.size, (c.requires.slot, none_fits _ c.empty_peer.ensures))

pub returns : goal.returns
unfolding emptied
returns c =
    let s = c.args.slot in
    c.store_peer.ensures
    ∙ ap (set_peer _ s) c.empty_peer.ensures
    ∙ ap (λ (v : State). set_peer v s no_peer) c.empty_topics.ensures
