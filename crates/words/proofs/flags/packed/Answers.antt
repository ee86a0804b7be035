use native.Mathlib.Omega.{arith}
use mathlib.Core.Path.{refl}
use Rattle.words.proofs.WideLaws.{packing_none, packing_more, packing_done}
use Rattle.words.proofs.flags.packed.Goals as goal

pub loop-j-init : goal.loop-j-init
loop-j-init c = packing_none _ _

pub overflow_add-w : goal.overflow_add-w
overflow_add-w c = let l = c.loop-j in
    omega (arith, (packing_more _ _ l.j l.w _ _ l.invariant (omega arith) c.flag-w.ensures refl).fits)

pub loop-j-preserved : goal.loop-j-preserved
loop-j-preserved c = let l = c.loop-j in
    (packing_more _ _ l.j l.w _ _ l.invariant (omega arith) c.flag-w.ensures refl).packing

pub returns : goal.returns
returns c = let l = c.loop-j in packing_done _ _ l.j l.w (omega arith) l.invariant
