use Rattle.index.proofs.Kit.{refl, arith}
use Rattle.index.proofs.Lists.{built_none, built_more}
use Rattle.peer_score.proofs.BucketLaws.{tells_none}
use Rattle.leaving.proofs.negatives.Goals as goal

pub count_groups-requires : goal.count_groups-requires
count_groups-requires c = (c.requires.standing, tells_none)

pub topic_weights-weights-requires : goal.topic_weights-weights-requires
topic_weights-weights-requires c = c.requires.standing

pub loop-slot-init : goal.loop-slot-init
loop-slot-init c = built_none _ _ _ _ refl

pub is_negative_member-requires : goal.is_negative_member-requires
is_negative_member-requires c =
    let p = c.requires in (
      p.topic,
      record {
        at = record { standing = p.standing; slot = c.loop-slot-test.true };
        buckets = c.count_groups.ensures;
        weights = c.topic_weights-weights.ensures;
      },
    )

pub loop-slot-preserved : goal.loop-slot-preserved
loop-slot-preserved c =
    let l = c.loop-slot in
    built_more _ _ _ l.slot l.flags _ (omega arith) l.invariant c.is_negative_member.ensures

pub returns : goal.returns
returns c k h = c.loop-slot.invariant.below k (omega arith)
