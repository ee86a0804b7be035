use Prim.Native.Nat.{◌-◌}
use native.Mathlib.Omega.{arith}
use Rattle.notes.proofs.SetLaws.{every_start, rises_step, rises_done}
use Rattle.notes.proofs.rises.Goals as goal

pub loop-k-init : goal.loop-k-init
loop-k-init c = (omega arith, every_start _)

pub loop-k-preserved : goal.loop-k-preserved
loop-k-preserved c =
    let l = c.loop-k in
    let a = c.args in
    (omega arith, rises_step a.cells.now a.at l.k l.ok (omega arith) l.invariant.1)

pub returns : goal.returns
returns c =
    let l = c.loop-k in
    let a = c.args in
    rises_done a.cells.now a.at a.n (l.k - 1) l.ok l.invariant.0 (omega arith) l.invariant.1
