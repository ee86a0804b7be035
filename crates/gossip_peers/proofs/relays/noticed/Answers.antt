-- `gossip_peers::relays::noticed`: three words as they stand in the table, together.
use borrow.Author.Rules.{rules}
use Rattle.index.proofs.Kit.{◌≡◌}
use lib.ListN.{length}
use Rattle.words.specs.Words.{word_count}
use Rattle.heartbeat.proofs.SeenLaws.{flags_length}
use Rattle.gossip_peers.proofs.SiftLaws.{flags_are}
use Rattle.gossip_peers.proofs.PeerLaws.{noticed_at}
use Rattle.gossip_peers.proofs.relays.noticed.Goals as goal

pub load_members-members-requires : goal.load_members-members-requires
load_members-members-requires c = let p = c.requires in (p.standing.size, p.topic)

pub load_version_high-high-requires : goal.load_version_high-high-requires
load_version_high-high-requires c = c.requires.standing.size

pub load_version-low-requires : goal.load_version-low-requires
load_version-low-requires c = c.requires.standing.size

pub returns : goal.returns
returns c =
    let m = c.load_members-members.ensures in
    let w = c.load_version_high-high.ensures in
    let l = c.load_version-low.ensures in
    let z : length c.except.result ≡ word_count = search rules in
    flags_are _ _ (flags_length _ z)
    (λ s h. noticed_at _ _ s h _ m.0 (m.1 s h) _ _ _ _ w.0 l.0 (w.1 s h) (l.1 s h) c.both.ensures c.except.ensures)
