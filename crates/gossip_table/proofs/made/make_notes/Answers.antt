-- `gossip_table::made::make_notes`: one part, made.
use mathlib.Core.Path.{◌∙◌}
use Rattle.gossip_table.proofs.NoteParts.{notes_size}
use Rattle.gossip_table.proofs.MadeLaws.{notes_made}
use Rattle.gossip_table.proofs.made.make_notes.Goals as goal

pub make-requires : goal.make-requires
make-requires c = notes_size c.args.gossip.now c.requires

pub returns : goal.returns
returns c =
    let g = c.args.gossip.now in
    notes_made g c.make.new.cells c.requires (c.make.auto.cells ∙ notes_size g c.requires)
    c.make.ensures
