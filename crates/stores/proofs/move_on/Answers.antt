use native.Mathlib.Omega.{arith}
use Rattle.stores.proofs.ChangeLaws.{moved_none, moved_more, moved_done}
use Rattle.stores.proofs.move_on.Goals as goal

pub loop-t-init : goal.loop-t-init
loop-t-init c = (omega arith, moved_none _ c.requires)

pub loop-t-preserved : goal.loop-t-preserved
loop-t-preserved c =
    let l = c.loop-t in
    (omega arith, moved_more _ _ _ l.t (omega arith) l.invariant.1 c.move_topic.ensures)

pub returns : goal.returns
returns c =
    let l = c.loop-t in
    (moved_done _ _ l.t (omega arith) l.invariant.1, l.invariant.1.windows)
