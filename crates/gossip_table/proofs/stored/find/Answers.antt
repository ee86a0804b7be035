-- `gossip_table::stored::find`: the stores are those in their part.
use Rattle.gossip_table.proofs.StoreParts.{fine_stores, find_by}
use Rattle.gossip_table.proofs.stored.find.Goals as goal

pub find-requires : goal.find-requires
find-requires c = search fine_stores

pub returns : goal.returns
returns c = find_by c.args.gossip.now c.args.number _ c.find.ensures
