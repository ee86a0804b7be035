use Rattle.index.proofs.Kit.{ℕ, sym, ap, ◌∙◌, arith}
use Rattle.index.proofs.Index.{iter_none, iter_more, iter_done}
use Rattle.layout.specs.View.{state_of}
use Rattle.records.specs.Records.{State, set_topic, place, no_topic}
use Rattle.effects.proofs.EffectLaws.{no_topic_fits}
use Rattle.effects.proofs.connections.empty_topics.Goals as goal

abbrev empty : ℕ → ℕ → State → State
empty slot t u = set_topic u (place slot t) no_topic

pub loop-t-init : goal.loop-t-init
loop-t-init c = (omega arith, c.requires.size, sym (iter_none _ _))

pub store_topic-requires : goal.store_topic-requires
store_topic-requires c =
    let h = c.requires.slot in
    (c.loop-t.invariant.1, (omega arith, no_topic_fits _ c.empty_topic.ensures))

pub loop-t-preserved : goal.loop-t-preserved
loop-t-preserved c =
    let a = c.args in
    let l = c.loop-t in
    let k = c.store_topic in
    let e = k.ensures ∙ ap (set_topic (state_of l.table) (place a.slot l.t)) c.empty_topic.ensures in
    (omega arith, k.auto.cells ∙ l.invariant.1, iter_more (empty a.slot) (state_of a.table.now) l.t (state_of l.table) _ l.invariant.2 e)

pub shape_of-table : goal.shape_of-table
shape_of-table c = c.loop-t.invariant.1 ∙ sym c.requires.size

pub returns : goal.returns
returns c =
    let a = c.args in
    let l = c.loop-t in
    iter_done (empty a.slot) (state_of a.table.now) 8 l.t _ (omega arith) (omega arith) l.invariant.2
