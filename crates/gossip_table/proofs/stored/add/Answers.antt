-- `gossip_table::stored::add`: one number more, in its part of the array.
use mathlib.Core.Path.{◌∙◌}
use Rattle.gossip.specs.Notes.{added}
use Rattle.gossip_table.proofs.StoreParts.{stores_size, add_fits, store_back}
use Rattle.gossip_table.proofs.stored.add.Goals as goal

pub add-requires : goal.add-requires
add-requires c = search add_fits

pub returns : goal.returns
returns c =
    let g = c.args.gossip.now in
    let l = c.add.new.cells in
    let size = c.requires.fine.size in
    store_back g l _ (added _) size (c.add.auto.cells ∙ stores_size g size) c.add.ensures.0
