-- `gossip_table::made::make`: the parts, one after the other, and the head.
use Rattle.gossip_table.specs.View.{gossip_of}
use Rattle.gossip_table.proofs.MadeLaws.{all_made}
use Rattle.gossip_table.proofs.made.make.Goals as goal

pub returns : goal.returns
returns c =
    all_made (gossip_of
    c.args.gossip.now) _ _ _ _ _
    c.make_notes.ensures
    c.make_stores.ensures
    c.make_replies.ensures c.make_head.ensures
