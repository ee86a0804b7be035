-- `gossip_peers::relays::asked`: the set by words, and the sender taken out.
use Rattle.gossip_peers.proofs.PeerLaws.{asked_are}
use Rattle.gossip_peers.proofs.relays.asked.Goals as goal

pub returns : goal.returns
returns c = asked_are _ _ _ _ _ c.noticed-all.ensures c.without.ensures
