use Rattle.std.proofs.Common.{not-suc-le-zero, arith}
use Rattle.columns.proofs.WithinLaws.{topics_more}
use Rattle.columns.proofs.counters.Goals as goal

pub loop-t-init : goal.loop-t-init
loop-t-init c = (omega arith, (λ h j l. absurd (not-suc-le-zero l)))

pub loop-t-preserved : goal.loop-t-preserved
loop-t-preserved c =
    let l = c.loop-t in
    (omega arith, topics_more _ _ _ _ _ _ _ _ _ l.invariant.1 c.gathered-acc.ensures c.lanes_room.ensures)

pub returns : goal.returns
returns c =
    λ h j l.
    let t = c.loop-t.invariant.0 in
    c.loop-t.invariant.1 h j (omega arith)
