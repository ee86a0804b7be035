-- `gossip_table::stored::forget`: the flags say of each row whether its number is stored.
use Rattle.index.proofs.Kit.{◌∙◌, rules}
use Rattle.gossip_table.proofs.StoreParts.{replies_size, flagged, forget_back}
use Rattle.gossip_table.proofs.stored.forget.Goals as goal

pub rows_that_stay-requires : goal.rows_that_stay-requires
rows_that_stay-requires c = (c.requires, search rules)

pub keep_rows-requires : goal.keep_rows-requires
keep_rows-requires c = flagged c.requires (search rules)

pub returns : goal.returns
returns c =
    let size = c.requires.size in
    forget_back c.args.gossip.now c.keep_rows.new.cells
    c.rows_that_stay.new.flags size
    (c.keep_rows.auto.cells ∙ replies_size c.args.gossip.now size)
    c.rows_that_stay.ensures
    c.keep_rows.ensures
