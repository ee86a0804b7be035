-- `gossip_table::noted::has_room`: the note is the one in its part.
use borrow.Author.Rules.{rules}
use Rattle.gossip_table.proofs.NoteParts.{fine_slot, room_by}
use Rattle.gossip_table.proofs.noted.has_room.Goals as goal

pub has_room-requires : goal.has_room-requires
has_room-requires c = search fine_slot

pub returns : goal.returns
returns c = search (room_by, rules)
