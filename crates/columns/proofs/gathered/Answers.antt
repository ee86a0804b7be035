use Rattle.std.proofs.Common.{refl, arith}
use Rattle.columns.proofs.GatherLaws.{gathered_none, gathered_more, gathered_end}
use Rattle.columns.proofs.gathered.Goals as goal

pub loop-i-init : goal.loop-i-init
loop-i-init c = (omega arith, gathered_none _ _ _)

pub loop-i-preserved : goal.loop-i-preserved
loop-i-preserved c = (omega arith, gathered_more _ _ _ _ _ _ _ c.loop-i.invariant.1 refl c.wrapping_add_u64.ensures.value)

pub returns : goal.returns
returns c = gathered_end _ _ _ _ _ _ (omega arith) (omega arith) c.loop-i.invariant.1
