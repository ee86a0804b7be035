use Rattle.index.proofs.Flags.{yes, no}
use Rattle.index.proofs.Kit.{sym, arith}
use Rattle.index.proofs.Index.{every_none, every_more, every_out, every_done}
use Rattle.records.specs.Records.{topic_count}
use Rattle.gossip_table.proofs.StoreParts.{stores_size}
use Rattle.gossip_table.proofs.TestLaws.{quiet_stores, store_judged}
use Rattle.gossip_table.proofs.tests.stores_ok.Goals as goal

pub is_quiet-requires : goal.is_quiet-requires
is_quiet-requires c = stores_size c.args.gossip.now c.requires.sizes

pub returns-then-is_quiet : goal.returns-then-is_quiet
returns-then-is_quiet c = quiet_stores c.args.gossip.now _ (c.is_quiet.ensures c.if-is_quiet.true)

pub loop-t-init : goal.loop-t-init
loop-t-init c = (omega arith, every_none _)

pub slice_bounds-store_ok-end : goal.slice_bounds-store_ok-end
slice_bounds-store_ok-end c = let e = c.requires.sizes in omega (arith, e)

pub store_ok-requires : goal.store_ok-requires
store_ok-requires c = (stores_size c.args.gossip.now c.requires.sizes, c.loop-t-test.true)

pub returns-then-not-store_ok : goal.returns-then-not-store_ok
returns-then-not-store_ok c =
    every_out _ topic_count c.loop-t.t (let t = c.loop-t-test.true in omega (arith, t))
    (no (store_judged c.args.gossip.now _ c.is_joined-joined.ensures c.store_ok.ensures) c.if-not-store_ok.true)

pub loop-t-preserved : goal.loop-t-preserved
loop-t-preserved c = (
  let t = c.loop-t-test.true in omega (arith, t),
  every_more _ _ c.loop-t.invariant.1
      (yes (store_judged c.args.gossip.now _ c.is_joined-joined.ensures c.store_ok.ensures) c.if-not-store_ok.false),
)

pub returns : goal.returns
returns c =
    let l = c.loop-t in
    sym (every_done _ topic_count l.t l.invariant.0 (omega arith) l.invariant.1)
