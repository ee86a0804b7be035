use Rattle.index.proofs.Kit.{◌+◌, sym, ◌∙◌, arith}
use Rattle.index.proofs.Index.{iter_none, iter_more, iter_done}
use Rattle.layout.specs.View.{state_of}
use Rattle.rules.specs.Step.{decay_topic}
use Rattle.deliveries.proofs.DecayLaws.{at_topic, idle_on}
use Rattle.deliveries.proofs.decay_topics.Goals as goal

pub busy-left-requires : goal.busy-left-requires
busy-left-requires c = let p = c.requires in record { size = p.size; slot = p.slot }

pub loop-topic-init : goal.loop-topic-init
loop-topic-init c =
    let n = c.next_busy-topic.ensures in
    let b = c.busy-left.ensures in (
      n.most,
      c.requires.size,
      sym (iter_none _ _) ∙ idle_on _ _ _ 0 _ n.later (λ t l h. b t (omega (arith, n.most)) (n.none t l h)),
    )

pub decay_topic-requires : goal.decay_topic-requires
decay_topic-requires c =
    let l = c.loop-topic in
    let pre = c.requires in
    record {
      size = l.invariant.1;
      decays = at_topic _ _ _ _ _ pre.decays pre.slot l.invariant.0 l.invariant.2;
      topic = omega arith;
      slot = pre.slot;
    }

pub overflow_add-topic : goal.overflow_add-topic
overflow_add-topic c = omega (arith, c.loop-topic-test.true)

pub next_busy-topic-requires-in-loop-topic : goal.next_busy-topic-requires-in-loop-topic
next_busy-topic-requires-in-loop-topic c = omega (arith, c.loop-topic-test.true)

pub loop-topic-smaller : goal.loop-topic-smaller
loop-topic-smaller c = omega (arith, c.loop-topic-test.true, c.next_busy-topic-in-loop-topic.ensures.later)

pub loop-topic-preserved : goal.loop-topic-preserved
loop-topic-preserved c =
    let a = c.args in
    let l = c.loop-topic in
    let k = c.decay_topic in
    let n = c.next_busy-topic-in-loop-topic.ensures in
    let b = c.busy-left.ensures in (
      n.most,
      k.auto.table ∙ l.invariant.1,
      iter_more (decay_topic a.time a.slot) (state_of a.table.now) l.topic (state_of l.table) _ l.invariant.2 k.ensures
          ∙ idle_on _ _ _ (l.topic + 1) _ n.later (λ t u h. b t (omega (arith, n.most)) (n.none t u h)),
    )

pub shape_of-table : goal.shape_of-table
shape_of-table c = c.loop-topic.invariant.1 ∙ sym c.requires.size

pub returns : goal.returns
returns c =
    let a = c.args in
    let l = c.loop-topic in
    iter_done (decay_topic a.time a.slot) (state_of a.table.now) 8 l.topic _ (omega arith) (omega arith) l.invariant.2
