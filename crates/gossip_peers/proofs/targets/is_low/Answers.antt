-- `gossip_peers::targets::is_low`: the score held to the threshold.
use Rattle.gossip_peers.proofs.PeerLaws.{gossip_most, low_of}
use Rattle.gossip_peers.proofs.targets.is_low.Goals as goal

pub is_below-requires : goal.is_below-requires
is_below-requires c = let p = c.requires.at.standing in
    (c.score_among-b.ensures.range, gossip_most _ _ p.router c.load_magnitude.ensures)

pub returns : goal.returns
returns c = low_of _ _ _ c.score_among-b.ensures c.requires.at.standing.router _ c.load_magnitude.ensures _
    c.is_below.ensures
