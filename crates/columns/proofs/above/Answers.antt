use Rattle.std.proofs.Common.{refl, arith}
use Rattle.columns.proofs.WithinLaws.{run_none, run_more, run_join, four_below}
use Rattle.columns.proofs.above.Goals as goal

pub loop-i-init : goal.loop-i-init
loop-i-init c = (omega arith, (run_none _ _ _, (run_none _ _ _, (run_none _ _ _, run_none _ _ _))))

pub loop-i-preserved : goal.loop-i-preserved
loop-i-preserved c =
    let l = c.loop-i in
    let v = l.invariant.1 in
    let b = four_below l.acc _ _ _ _ in (
      omega arith,
      (
        run_more _ _ _ b.0 _ _ _ v.0 refl b.1.0,
        (
          run_more _ _ _ b.0 _ _ _ v.1.0 refl b.1.1.0,
          (
            run_more _ _ _ b.0 _ _ _ v.1.1.0 refl b.1.1.1.0,
            run_more _ _ _ b.0 _ _ _ v.1.1.1 refl b.1.1.1.1,
          ),
        ),
      ),
    )

pub returns : goal.returns
returns c =
    let v = c.loop-i.invariant.1 in
    run_join _ _ _ _ _ (omega arith) v.0 v.1.0 v.1.1.0 v.1.1.1
