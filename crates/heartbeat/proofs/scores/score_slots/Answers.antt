use Rattle.index.proofs.Kit.{arith}
use Rattle.words.proofs.SlotWalk.{begun, took, ended}
use Rattle.heartbeat.proofs.HeightLaws.{walked_none, walked_turn, walked_end}
use Rattle.heartbeat.proofs.scores.score_slots.Goals as goal

pub topic_weights-weights-requires : goal.topic_weights-weights-requires
topic_weights-weights-requires c = c.requires.standing

pub loop-slot-init : goal.loop-slot-init
loop-slot-init c =
    let b = begun _ _ _ c.into_iter-slot-iterator.ensures.into_iter_gives c.of-slot-items.ensures.set_is c.of-slot-items.ensures.from_is in
    (b.0, rw b.1 (walked_none _ _ _))

pub bounds-heights-slot : goal.bounds-heights-slot
bounds-heights-slot c =
    let i = c.loop-slot.invariant in
    let t = (took _ _ _ _ _ i.0 c.in-Some.is c.next.ensures.steps).slot_lt in
    let z = i.1.size in
    let p = c.requires.size in
    omega arith

pub height-requires : goal.height-requires
height-requires c =
    let p = c.requires in
    record {
      at = record {
        standing = p.standing;
        slot = (took _ _ _ _ _ c.loop-slot.invariant.0 c.in-Some.is c.next.ensures.steps).slot_lt;
      };
      buckets = p.buckets;
      weights = c.topic_weights-weights.ensures;
    }

pub loop-slot-preserved : goal.loop-slot-preserved
loop-slot-preserved c =
    let i = c.loop-slot.invariant in
    let t = took _ _ _ _ _ i.0 c.in-Some.is c.next.ensures.steps in
    let lt = t.slot_lt in
    let z = i.1.size in
    let p = c.requires.size in
    (t.set_is, walked_turn _ _ _ _ _ _ _ _ t (omega arith) c.height.ensures i.1)

pub shape_of-heights : goal.shape_of-heights
shape_of-heights c = c.loop-slot.invariant.1.size

pub returns : goal.returns
returns c =
    let n = ended _ _ _ _ c.loop-slot.invariant.0 c.in-None.is c.next.ensures.steps in
    walked_end _ _ _ _ _ n c.loop-slot.invariant.1
