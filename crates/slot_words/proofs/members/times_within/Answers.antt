use native.Mathlib.Omega.{arith}
use Rattle.slot_words.proofs.WalkLaws.{up_none, up_more, refused}
use Rattle.slot_words.proofs.members.times_within.Goals as goal

pub loop-t-init : goal.loop-t-init
loop-t-init c = (omega arith, up_none _)

pub returns-then-not-topic_in_time : goal.returns-then-not-topic_in_time
returns-then-not-topic_in_time c e = refused e

pub loop-t-preserved : goal.loop-t-preserved
loop-t-preserved c =
    let l = c.loop-t in
    (omega arith, up_more _ l.t l.invariant.1 (c.topic_in_time.ensures c.if-not-topic_in_time.false))

pub returns : goal.returns
returns c e k h = c.loop-t.invariant.1 k (omega arith)
