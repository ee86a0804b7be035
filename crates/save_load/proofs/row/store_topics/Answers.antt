use mathlib.Core.Path.{sym, ap, ◌∙◌}
use native.Mathlib.Omega.{arith}
use Rattle.index.proofs.Index.{iter_none, iter_more, iter_done}
use Rattle.records.specs.Records.{set_topic, place}
use Rattle.layout.specs.View.{state_of}
use Rattle.save_load.specs.Store.{stored_topic}
use Rattle.save_load.proofs.StoreLaws.{topic_fits}
use Rattle.save_load.proofs.row.store_topics.Goals as goal

pub loop-t-init : goal.loop-t-init
loop-t-init c = (omega arith, (c.requires.0, sym (iter_none _ _)))

pub loaded_topic-requires : goal.loaded_topic-requires
loaded_topic-requires c = (c.requires.1.1.long, c.loop-t-test.true)

pub store_topic-requires : goal.store_topic-requires
store_topic-requires c = (
  c.loop-t.invariant.1.0,
  (
    omega arith,
    topic_fits _ c.requires.1.1 _ _ (omega arith) c.loaded_topic.ensures,
  ),
)

pub loop-t-preserved : goal.loop-t-preserved
unfolding stored_topic
loop-t-preserved c =
    let a = c.args in
    let l = c.loop-t in
    let k = c.store_topic in
    let e = k.ensures ∙ ap (set_topic (state_of l.table) (place a.slot l.t)) c.loaded_topic.ensures in (
      omega arith,
      (
        k.auto.cells ∙ l.invariant.1.0,
        iter_more (stored_topic a.row.now a.slot) (state_of a.table.now) l.t (state_of l.table) _ l.invariant.1.1 e,
      ),
    )

pub shape_of-table : goal.shape_of-table
shape_of-table c = c.loop-t.invariant.1.0 ∙ sym c.requires.0

pub returns : goal.returns
returns c =
    let l = c.loop-t in
    let a = c.args in
    iter_done (stored_topic a.row.now a.slot) (state_of a.table.now) 8 l.t _ (omega arith) (omega arith) l.invariant.1.1
