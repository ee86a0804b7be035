use native.Mathlib.Omega.{arith}
use Rattle.stores.proofs.WantLaws.{seen_next, seen_done}
use Rattle.stores.proofs.wants.mark_all.Goals as goal

pub loop-n-preserved : goal.loop-n-preserved
loop-n-preserved c =
    let l = c.loop-n in
    rw c.mark.ensures (seen_next _ _ l.n-index _ (omega arith) l.invariant c.bucket.ensures.0)

pub returns : goal.returns
returns c =
    let l = c.loop-n in
    seen_done _ _ l.n-index (omega arith) l.invariant
