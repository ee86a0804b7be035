-- `gossip_peers::reclaim::reclaimed_slots`: each retained slot is tested; no other is reclaimable.
use borrow.Author.Rules.{rules}
use Rattle.records.specs.Records.{peer_in}
use Rattle.layout.specs.View.{state_of}
use Rattle.effects.specs.Effects.{reclaimable}
use Rattle.gossip_peers.proofs.PeerLaws.{reclaimed_are}
use Rattle.gossip_peers.proofs.reclaim.reclaimed_slots.Goals as goal

pub returns : goal.returns
returns c =
    let a = c.args in
    let w = c.load_retained-retained.ensures in
    reclaimed_are _ _ _ _ w.0 w.1
    (c.sift.ensures (λ s. reclaimable (peer_in (state_of a.table.now) s) a.time) (λ s b l e. search rules))
