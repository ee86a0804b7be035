-- `gossip_table::made::make_head`: five cells in front of all parts.
use Rattle.index.proofs.Kit.{rules}
use Rattle.gossip_table.proofs.MadeLaws.{head_copied}
use Rattle.gossip_table.proofs.made.make_head.Goals as goal

pub returns : goal.returns
returns c = head_copied c.args.gossip.now _ c.args.setup.now c.requires (search rules) c.copy_from_slice.ensures.after
