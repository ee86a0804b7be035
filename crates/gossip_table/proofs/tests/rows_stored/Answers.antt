use Rattle.index.proofs.Flags.{yes, no}
use Rattle.index.proofs.Kit.{sym, arith}
use Rattle.index.proofs.Index.{every_none, every_more, every_out, every_done}
use Rattle.gossip_table.proofs.StoreParts.{replies_size, replies_count}
use Rattle.gossip_table.proofs.tests.rows_stored.Goals as goal

pub rows-end-requires : goal.rows-end-requires
rows-end-requires c = replies_size c.args.gossip.now c.requires.size

pub loop-row-init : goal.loop-row-init
loop-row-init c = (omega arith, every_none _)

pub row_stays-requires : goal.row_stays-requires
row_stays-requires c =
    let p = c.requires in
    let r = c.rows-end.ensures in
    let t = c.loop-row-test.true in
    record { size = p.size; windows = p.windows; rows = p.rows; row = omega (arith, r, t) }

pub returns-then-not-row_stays : goal.returns-then-not-row_stays
returns-then-not-row_stays c =
    let t = c.loop-row-test.true in
    let r = c.rows-end.ensures in
    let e = replies_count c.args.gossip.now in
    every_out _ _ c.loop-row.row (omega (arith, t, r, e)) (no c.row_stays.ensures c.if-not-row_stays.true)

pub loop-row-preserved : goal.loop-row-preserved
loop-row-preserved c =
    let t = c.loop-row-test.true in
    (omega (arith, t), every_more _ _ c.loop-row.invariant.1 (yes c.row_stays.ensures c.if-not-row_stays.false))

pub returns : goal.returns
returns c =
    let l = c.loop-row in
    let r = c.rows-end.ensures in
    let e = replies_count c.args.gossip.now in
    let t = c.loop-row-test.false in
    let b = l.invariant.0 in
    sym (every_done _ _ l.row (omega (arith, r, e, b)) (omega (arith, r, e, t)) l.invariant.1)
