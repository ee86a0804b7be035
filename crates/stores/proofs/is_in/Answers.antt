use native.Mathlib.Omega.{arith}
use Rattle.stores.proofs.HasLaws.{has_none, has_more, has_done}
use Rattle.stores.proofs.is_in.Goals as goal

pub loop-m-init : goal.loop-m-init
loop-m-init c = has_none _

pub loop-m-preserved : goal.loop-m-preserved
loop-m-preserved c =
    let l = c.loop-m in
    has_more _ c.args.list.now l.m-index _ (omega arith) l.invariant

pub returns : goal.returns
returns c = has_done _ c.args.list.now c.loop-m.m-index _ (omega arith) c.loop-m.invariant
