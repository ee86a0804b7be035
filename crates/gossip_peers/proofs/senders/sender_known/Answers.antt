-- `gossip_peers::senders::sender_known`: ourselves, or what the search finds.
use Rattle.gossip_peers.proofs.PeerLaws.{known_self, known_at, known_none}
use Rattle.gossip_peers.proofs.senders.sender_known.Goals as goal

pub returns-then-sender-eq0 : goal.returns-then-sender-eq0
returns-then-sender-eq0 c = search known_self

pub returns-in-Some : goal.returns-in-Some
returns-in-Some c = search known_at

pub returns-in-None : goal.returns-in-None
returns-in-None c = search known_none
