-- `gossip_table::stored::count`: the rows are those in their part.
use borrow.Author.Rules.{rules}
use Rattle.gossip_table.specs.View.{gossip_of}
use Rattle.gossip_table.proofs.StoreParts.{fine_ordered}
use Rattle.gossip_table.proofs.stored.count.Goals as goal

pub count-requires : goal.count-requires
count-requires c = search fine_ordered

pub returns : goal.returns
unfolding gossip_of
returns c = search rules
