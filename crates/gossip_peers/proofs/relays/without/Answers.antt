-- `gossip_peers::relays::without`: each slot of the set is asked for its id.
use borrow.Author.Rules.{rules}
use Rattle.index.proofs.Kit.{not}
use lib.Dec.{eqb}
use Rattle.records.specs.Records.{peer_in}
use Rattle.layout.specs.View.{state_of}
use Rattle.gossip_peers.proofs.relays.without.Goals as goal

pub returns : goal.returns
returns c =
    let a = c.args in
    c.sift.ensures (λ s. not (eqb (peer_in (state_of a.table.now) s).id a.id)) (λ s b l e. search rules)
