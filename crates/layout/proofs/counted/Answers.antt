use native.Mathlib.Omega.{arith}
use Rattle.layout.proofs.BareLaws.{counts_more, counts_done}
use Rattle.layout.proofs.counted.Goals as goal

pub loop-t-init : goal.loop-t-init
loop-t-init c = (omega arith, λ e t h. absurd (omega arith))

pub loop-t-preserved : goal.loop-t-preserved
loop-t-preserved c =
    let l = c.loop-t in
    let a = c.args in
    (omega arith, counts_more a.cells.now a.slot l.t l.acc l.invariant.1)

pub returns : goal.returns
returns c =
    let l = c.loop-t in
    let a = c.args in
    counts_done a.cells.now a.slot l.acc _ c.keep.ensures (λ e t h. l.invariant.1 e t (omega arith))
