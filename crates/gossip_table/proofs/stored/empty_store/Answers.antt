-- `gossip_table::stored::empty_store`: a store emptied, in its part of the array.
use mathlib.Core.Path.{◌∙◌}
use Rattle.gossip.specs.Notes.{no_store}
use Rattle.gossip_table.proofs.StoreParts.{stores_size, empty_fits, fine_kept, store_back, kept_stores}
use Rattle.gossip_table.proofs.stored.empty_store.Goals as goal

pub empty-requires : goal.empty-requires
empty-requires c = search empty_fits

pub returns : goal.returns
returns c =
    let g = c.args.gossip.now in
    let l = c.empty.new.cells in
    let size = c.requires.fine.size in
    let e = c.empty.ensures in (
      store_back g l _ (λ w. no_store) size (c.empty.auto.cells ∙ stores_size g size) e.0,
      kept_stores g l (fine_kept c.requires.fine) e.1,
    )
