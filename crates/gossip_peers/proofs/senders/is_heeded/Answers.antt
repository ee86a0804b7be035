-- `gossip_peers::senders::is_heeded`: an older peer is not, another by the graylist.
use Rattle.gossip_peers.proofs.PeerLaws.{heeded_not, heeded_is}
use Rattle.gossip_peers.proofs.senders.is_heeded.Goals as goal

pub returns-then-p-ne-NOTICE_VERSION : goal.returns-then-p-ne-NOTICE_VERSION
returns-then-p-ne-NOTICE_VERSION c = search heeded_not

pub returns : goal.returns
returns c = search heeded_is
