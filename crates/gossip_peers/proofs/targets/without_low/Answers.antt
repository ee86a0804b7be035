-- `gossip_peers::targets::without_low`: each slot of the set is asked for its score.
use borrow.Author.Rules.{rules}
use Rattle.index.proofs.Kit.{not}
use Rattle.layout.specs.View.{state_of}
use Rattle.gossip_peers.specs.Peers.{is_low}
use Rattle.gossip_peers.proofs.targets.without_low.Goals as goal

pub topic_weights-weights-requires : goal.topic_weights-weights-requires
topic_weights-weights-requires c = c.requires.standing

pub returns : goal.returns
returns c = c.sift.ensures (λ s. not (is_low (state_of c.args.table.now) s)) (λ s b l e. search rules)
