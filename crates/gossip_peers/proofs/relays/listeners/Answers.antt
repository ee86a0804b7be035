-- `gossip_peers::relays::listeners`: four words as they stand in the table, together.
use borrow.Author.Rules.{rules}
use Rattle.index.proofs.Kit.{◌≡◌}
use lib.ListN.{length}
use Rattle.words.specs.Words.{word_count, bits_of}
use Rattle.validity.proofs.ValidLaws.{valid_facts}
use Rattle.heartbeat.proofs.SeenLaws.{flags_length}
use Rattle.gossip_peers.proofs.SiftLaws.{flags_are}
use Rattle.gossip_peers.proofs.PeerLaws.{listener_at}
use Rattle.gossip_peers.proofs.relays.listeners.Goals as goal

pub load_members-members-requires : goal.load_members-members-requires
load_members-members-requires c = let p = c.requires in (p.standing.size, p.topic)

pub load_connected-connected-requires : goal.load_connected-connected-requires
load_connected-connected-requires c = c.requires.standing.size

pub load_subscribed-subscribed-requires : goal.load_subscribed-subscribed-requires
load_subscribed-subscribed-requires c = let p = c.requires in (p.standing.size, p.topic)

pub load_explicit-explicit-requires : goal.load_explicit-explicit-requires
load_explicit-explicit-requires c = c.requires.standing.size

pub returns : goal.returns
returns c =
    let m = c.load_members-members.ensures in
    let n = c.load_connected-connected.ensures in
    let u = c.load_subscribed-subscribed.ensures in
    let x = c.load_explicit-explicit.ensures in
    let v = c.requires.standing.router in
    let z : length c.either.result ≡ word_count = search rules in
    flags_are _ _ (flags_length _ z)
    (λ s h.
    listener_at _ _ s h _ m.0 (m.1 s h) _ _ _ _ _ (bits_of c.either.result) ((valid_facts _ v).peer s h).status n.0 u.0 x.0
    (n.1 s h) (u.1 s h)
    (x.1 s h) c.both.ensures c.both-2.ensures c.either.ensures)
