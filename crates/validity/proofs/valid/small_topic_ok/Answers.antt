-- `validity::valid::small_topic_ok`: the caps, then outside the mesh, in it, or neither. Assumes nothing.
use Rattle.validity.proofs.OrderLaws.{p2_fails, p3_fails, outside_is, inside_is, neither}
use Rattle.validity.proofs.valid.small_topic_ok.Goals as goal

pub returns-then-cap2-t : goal.returns-then-cap2-t
returns-then-cap2-t c = p2_fails _ _ _ _ _ _ c.if-cap2-t.true

pub returns-then-cap3-t : goal.returns-then-cap3-t
returns-then-cap3-t c = p3_fails _ _ _ _ _ _ c.if-cap2-t.false c.if-cap3-t.true

pub returns-then-t-eq0 : goal.returns-then-t-eq0
returns-then-t-eq0 c =
    outside_is _ _ _ _ _ _ c.requires.0 c.if-cap2-t.false c.if-cap3-t.false c.if-t-eq0.true

pub returns-then-not-t-explicit : goal.returns-then-not-t-explicit
returns-then-not-t-explicit c = neither _ _ _ _ _ _ c.if-t-eq0.false c.if-not-t-explicit.true

pub returns : goal.returns
returns c =
    inside_is _ _ _ _ _ _ c.requires.0 c.if-cap2-t.false c.if-cap3-t.false c.requires.1 c.if-not-t-explicit.false _ c.sum_at_most.ensures
