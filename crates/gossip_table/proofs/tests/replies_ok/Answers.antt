-- `gossip_table::tests::replies_ok`: the rows, and then whether their numbers are stored.
use Rattle.index.proofs.Flags.{yes, no}
use Rattle.index.proofs.Kit.{arith, ◌∙◌}
use Rattle.gossip_table.proofs.StoreParts.{replies_size}
use Rattle.gossip_table.proofs.TestLaws.{connected_is, rows_broken, rows_judged, rows_few}
use Rattle.gossip_table.proofs.tests.replies_ok.Goals as goal

pub slice_bounds-rows_ok-end : goal.slice_bounds-rows_ok-end
slice_bounds-rows_ok-end c = let e = c.requires.sizes in omega (arith, e)

pub rows_ok-requires : goal.rows_ok-requires
rows_ok-requires c = replies_size c.args.gossip.now c.requires.sizes

pub returns-else-rows_ok : goal.returns-else-rows_ok
returns-else-rows_ok c =
    let w = c.load_connected-connected.ensures in
    c.if-rows_ok.false
    ∙ rows_broken _ c.args.gossip.now _ _ c.load_reply_bound-most.ensures
    (connected_is _ c.requires.router _ w.0 w.1)
    (no c.rows_ok.ensures c.if-rows_ok.false)

pub rows_stored-requires : goal.rows_stored-requires
rows_stored-requires c =
    let p = c.requires in
    record { size = p.sizes; windows = p.windows; rows = rows_few _ _ _ (yes c.rows_ok.ensures c.if-rows_ok.true) }

pub returns-then-rows_ok : goal.returns-then-rows_ok
returns-then-rows_ok c =
    let w = c.load_connected-connected.ensures in
    rows_judged _ c.args.gossip.now _ _ c.load_reply_bound-most.ensures
    (connected_is _ c.requires.router _ w.0 w.1)
    _ (yes c.rows_ok.ensures c.if-rows_ok.true) c.rows_stored.ensures
