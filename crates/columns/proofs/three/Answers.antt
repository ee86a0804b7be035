use Rattle.std.proofs.Common.{refl, arith}
use Rattle.columns.proofs.GatherLaws.{gathered_none, gathered_more, gathered_end}
use Rattle.columns.proofs.three.Goals as goal

pub loop-i-init : goal.loop-i-init
loop-i-init c = (omega arith, (gathered_none _ _ _, (gathered_none _ _ _, gathered_none _ _ _)))

pub loop-i-preserved : goal.loop-i-preserved
loop-i-preserved c =
    let l = c.loop-i in (
      omega arith,
      (
        gathered_more _ _ _ _ _ _ _ l.invariant.1.0 refl c.wrapping_add_u64.ensures.value,
        (
          gathered_more _ _ _ _ _ _ _ l.invariant.1.1.0 refl c.wrapping_add_u64-in-loop-i.ensures.value,
          gathered_more _ _ _ _ _ _ _ l.invariant.1.1.1 refl c.wrapping_add_u64-in-loop-i-2.ensures.value,
        ),
      ),
    )

pub returns : goal.returns
returns c =
    let l = c.loop-i in (
      gathered_end _ _ _ _ _ _ (omega arith) (omega arith) l.invariant.1.0,
      (
        gathered_end _ _ _ _ _ _ (omega arith) (omega arith) l.invariant.1.1.0,
        gathered_end _ _ _ _ _ _ (omega arith) (omega arith) l.invariant.1.1.1,
      ),
    )
