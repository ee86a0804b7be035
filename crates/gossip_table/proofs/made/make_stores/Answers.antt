-- `gossip_table::made::make_stores`: one part, made.
use mathlib.Core.Path.{◌∙◌}
use Rattle.gossip_table.proofs.StoreParts.{stores_size}
use Rattle.gossip_table.proofs.MadeLaws.{stores_made}
use Rattle.gossip_table.proofs.made.make_stores.Goals as goal

pub make-requires : goal.make-requires
make-requires c = stores_size c.args.gossip.now c.requires

pub returns : goal.returns
returns c =
    let g = c.args.gossip.now in
    stores_made g c.make.new.cells c.requires (c.make.auto.cells ∙ stores_size g c.requires)
    c.make.ensures.0
