-- `gossip_table::load_reply_bound`: a number of the head.
use borrow.Author.Rules.{rules}
use Rattle.gossip_table.specs.View.{gossip_of, setup_of}
use Rattle.gossip_table.proofs.load_reply_bound.Goals as goal

pub returns : goal.returns
unfolding gossip_of setup_of
returns c = search rules
