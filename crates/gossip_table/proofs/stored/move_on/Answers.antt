-- `gossip_table::stored::move_on`: every store moved on, in its part of the array.
use mathlib.Core.Path.{◌∙◌}
use Rattle.gossip_table.proofs.StoreParts.{stores_size, moved_back, kept_stores}
use Rattle.gossip_table.proofs.stored.move_on.Goals as goal

pub returns : goal.returns
returns c =
    let g = c.args.gossip.now in
    let l = c.move_on.new.cells in
    let size = c.requires.size in
    let e = c.move_on.ensures in
    (moved_back g l size (c.move_on.auto.cells ∙ stores_size g size) e.0, kept_stores g l c.requires e.1)
