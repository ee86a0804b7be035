-- `gossip_table::stored::has_room`: the store is the one in its part.
use borrow.Author.Rules.{rules}
use Rattle.gossip.specs.Notes.{store_in}
use Rattle.gossip_table.specs.View.{gossip_of}
use Rattle.gossip_table.proofs.StoreParts.{fine_topic}
use Rattle.gossip_table.proofs.stored.has_room.Goals as goal

pub has_room-requires : goal.has_room-requires
has_room-requires c = let t = fine_topic c.requires in search rules

pub returns : goal.returns
unfolding gossip_of store_in
returns c = search rules
