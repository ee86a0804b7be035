-- `gossip_table::stored::row_stays`: the number of the row, looked for in the stores.
use Rattle.index.proofs.Kit.{arith}
use Rattle.gossip_table.proofs.StoreParts.{row_kept, stays_by}
use Rattle.gossip_table.proofs.stored.row_stays.Goals as goal

pub row_number-number-requires : goal.row_number-number-requires
row_number-number-requires c = search row_kept

pub row_hint-hint-requires : goal.row_hint-hint-requires
row_hint-hint-requires c = search row_kept

pub slice_bounds-is_stored_at-end : goal.slice_bounds-is_stored_at-end
slice_bounds-is_stored_at-end c = let e = c.requires.size in omega (arith, e)

pub returns : goal.returns
returns c = stays_by _ _ _ _ c.row_number-number.ensures c.is_stored_at.ensures
