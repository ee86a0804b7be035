use Rattle.index.proofs.Kit.{arith}
use Rattle.deliveries.proofs.DecayLaws.{idle_more}
use Rattle.deliveries.proofs.busy.Goals as goal

pub loop-topic-init : goal.loop-topic-init
loop-topic-init c = (omega arith, λ t h e. absurd (omega arith))

pub loop-topic-preserved : goal.loop-topic-preserved
loop-topic-preserved c =
    let l = c.loop-topic in (
      omega arith,
      idle_more _ _ l.topic _ _ _ _ (omega arith) c.load_topic-r.ensures.0 c.is_idle.ensures
          c.with_bit-w.ensures
          l.invariant.1,
    )

pub returns : goal.returns
returns c t h e = let l = c.loop-topic in l.invariant.1 t (omega arith) e
