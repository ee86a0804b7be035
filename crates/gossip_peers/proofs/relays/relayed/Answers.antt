-- `gossip_peers::relays::relayed`: the set by words, and the sender taken out.
use Rattle.gossip_peers.proofs.PeerLaws.{reached_are}
use Rattle.gossip_peers.proofs.relays.relayed.Goals as goal

pub returns : goal.returns
returns c = reached_are _ _ _ _ _ c.listeners-all.ensures c.without.ensures
