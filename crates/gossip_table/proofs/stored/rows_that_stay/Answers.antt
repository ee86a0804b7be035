use Rattle.index.proofs.Kit.{arith}
use Rattle.index.proofs.Lists.{built_none, built_more}
use Rattle.gossip_table.proofs.StoreParts.{replies_size, replies_count}
use Rattle.gossip_table.proofs.stored.rows_that_stay.Goals as goal

pub rows-end-requires : goal.rows-end-requires
rows-end-requires c = replies_size c.args.gossip.now c.requires.0.size

pub loop-row-init : goal.loop-row-init
loop-row-init c = (built_none _ _ _ _ c.requires.1, omega arith)

pub row_stays-requires : goal.row_stays-requires
row_stays-requires c =
    let p = c.requires.0 in
    let r = c.rows-end.ensures in
    let t = c.loop-row-test.true in
    record { size = p.size; windows = p.windows; rows = p.rows; row = omega (arith, r, t) }

pub bounds-flags-row : goal.bounds-flags-row
bounds-flags-row c =
    let b = c.loop-row.invariant.0.len in
    let t = c.loop-row-test.true in
    let r = c.rows-end.ensures in
    let k = c.requires.0.rows in
    omega (arith, b, t, r, k)

pub loop-row-preserved : goal.loop-row-preserved
loop-row-preserved c =
    let l = c.loop-row in
    let t = c.loop-row-test.true in
    let r = c.rows-end.ensures in
    let k = c.requires.0.rows in
    (built_more _ _ _ l.row l.flags _ (omega (arith, t, r, k)) l.invariant.0 c.row_stays.ensures, omega (arith, t))

pub returns : goal.returns
returns c k h =
    let r = c.rows-end.ensures in
    let t = c.loop-row-test.false in
    let e = replies_count c.args.gossip.now in
    c.loop-row.invariant.0.below k (omega (arith, r, t, h, e))
