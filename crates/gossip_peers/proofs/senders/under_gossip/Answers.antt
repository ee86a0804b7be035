-- `gossip_peers::senders::under_gossip`: the record as loaded, and its score held to the threshold.
use borrow.Author.Rules.{rules}
use Rattle.gossip_peers.proofs.PeerLaws.{gossip_most, under_of}
use Rattle.gossip_peers.proofs.senders.under_gossip.Goals as goal

pub is_below-requires : goal.is_below-requires
is_below-requires c = search (gossip_most, rules)

pub returns : goal.returns
returns c = search under_of
