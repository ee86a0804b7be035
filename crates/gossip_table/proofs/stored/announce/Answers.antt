-- `gossip_table::stored::announce`: the store is the one in its part.
use borrow.Author.Rules.{rules}
use Rattle.gossip.specs.Notes.{store_in}
use Rattle.gossip_table.specs.View.{gossip_of}
use Rattle.gossip_table.proofs.StoreParts.{announce_fits}
use Rattle.gossip_table.proofs.stored.announce.Goals as goal

pub announce-requires : goal.announce-requires
announce-requires c = search announce_fits

pub returns : goal.returns
unfolding gossip_of store_in
returns c = search rules
