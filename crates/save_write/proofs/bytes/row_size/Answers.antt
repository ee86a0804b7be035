use native.Mathlib.Omega.{arith}
use Rattle.save_write.proofs.WriteLaws.{sum_none, sum_more, sum_all}
use Rattle.save_write.proofs.bytes.row_size.Goals as goal

pub loop-n-init : goal.loop-n-init
loop-n-init c = (omega arith, (sum_none c.args.row.now, omega arith))

pub loop-n-preserved : goal.loop-n-preserved
loop-n-preserved c =
    let l = c.loop-n in
    let t = c.loop-n-test.true in (
      omega arith,
      (sum_more c.args.row.now l.n-index l.sum c.size_of-sum.result t l.invariant.1.0 c.size_of-sum.ensures.0, omega arith),
    )

pub returns : goal.returns
returns c =
    let l = c.loop-n in
    (sum_all c.args.row.now l.n-index l.sum c.loop-n-test.false l.invariant.1.0, omega arith)
