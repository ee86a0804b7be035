-- `gossip_table::stored::is_stored_in`: the store is the one in its part.
use borrow.Author.Rules.{rules}
use Rattle.gossip.specs.Notes.{store_in}
use Rattle.gossip_table.specs.View.{gossip_of}
use Rattle.gossip_table.proofs.StoreParts.{fine_topic}
use Rattle.gossip_table.proofs.stored.is_stored_in.Goals as goal

pub is_stored_in-requires : goal.is_stored_in-requires
is_stored_in-requires c = search fine_topic

pub returns : goal.returns
unfolding gossip_of store_in
returns c = search rules
