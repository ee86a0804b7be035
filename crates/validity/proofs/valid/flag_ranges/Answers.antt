use Rattle.validity.proofs.OrderLaws.{subscribed_over, member_over, graft_over, mesh_last}
use Rattle.validity.proofs.valid.flag_ranges.Goals as goal

pub returns-then-t-gt1 : goal.returns-then-t-gt1
returns-then-t-gt1 c = subscribed_over _ c.if-t-gt1.true

pub returns-then-t-gt1-2 : goal.returns-then-t-gt1-2
returns-then-t-gt1-2 c = member_over _ c.if-t-gt1.false c.if-t-gt1-2.true

pub returns-then-t-gt-MAX_TIME : goal.returns-then-t-gt-MAX_TIME
returns-then-t-gt-MAX_TIME c = graft_over _ c.if-t-gt1.false c.if-t-gt1-2.false c.if-t-gt-MAX_TIME.true

pub returns : goal.returns
returns c = mesh_last _ c.if-t-gt1.false c.if-t-gt1-2.false c.if-t-gt-MAX_TIME.false
