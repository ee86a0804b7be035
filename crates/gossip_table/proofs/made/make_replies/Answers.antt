-- `gossip_table::made::make_replies`: one part, made.
use mathlib.Core.Path.{◌∙◌}
use Rattle.gossip_table.proofs.StoreParts.{replies_size}
use Rattle.gossip_table.proofs.MadeLaws.{replies_made}
use Rattle.gossip_table.proofs.made.make_replies.Goals as goal

pub make-requires : goal.make-requires
make-requires c = replies_size c.args.gossip.now c.requires

pub returns : goal.returns
returns c =
    let g = c.args.gossip.now in
    replies_made g c.make.new.cells c.requires (c.make.auto.cells ∙ replies_size g c.requires)
    c.make.ensures
