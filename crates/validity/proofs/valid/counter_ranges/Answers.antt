use Rattle.validity.proofs.OrderLaws.{p2_over, p3_over, p4_over, p3b_last}
use Rattle.validity.proofs.valid.counter_ranges.Goals as goal

pub returns-then-cap2-t : goal.returns-then-cap2-t
returns-then-cap2-t c = p2_over _ _ _ c.if-cap2-t.true

pub returns-then-cap3-t : goal.returns-then-cap3-t
returns-then-cap3-t c = p3_over _ _ _ c.if-cap2-t.false c.if-cap3-t.true

pub returns-then-t-gt1000000 : goal.returns-then-t-gt1000000
returns-then-t-gt1000000 c = p4_over _ _ _ c.if-cap2-t.false c.if-cap3-t.false c.if-t-gt1000000.true

pub returns : goal.returns
returns c = p3b_last _ _ _ c.if-cap2-t.false c.if-cap3-t.false
    c.if-t-gt1000000.false
