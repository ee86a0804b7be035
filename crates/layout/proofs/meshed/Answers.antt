use native.Mathlib.Omega.{arith}
use Rattle.layout.proofs.BareLaws.{meshed_more}
use Rattle.layout.proofs.meshed.Goals as goal

pub loop-t-init : goal.loop-t-init
loop-t-init c = (omega arith, λ j z t h. absurd (omega arith))

pub loop-t-preserved : goal.loop-t-preserved
loop-t-preserved c =
    let l = c.loop-t in
    let a = c.args in
    (omega arith, meshed_more a.cells.now a.i l.t l.acc l.invariant.1)

pub returns : goal.returns
returns c j z t h = c.loop-t.invariant.1 j z t (omega arith)
