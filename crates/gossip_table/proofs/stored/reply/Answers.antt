-- `gossip_table::stored::reply`: one reply more, in its part of the array.
use borrow.Author.Rules.{rules}
use Rattle.gossip.specs.Notes.{replied}
use Rattle.gossip_table.proofs.StoreParts.{room_fits, replies_back}
use Rattle.gossip_table.proofs.stored.reply.Goals as goal

pub reply-requires : goal.reply-requires
reply-requires c = search room_fits

pub returns : goal.returns
returns c =
    let g = c.args.gossip.now in
    let l = c.reply.new.cells in
    replies_back g l (replied _ _) c.requires.fine.size (search rules) (search rules)
