use Rattle.index.proofs.Kit.{arith}
use Rattle.rpc_write.proofs.WriteLaws.{copy_none, copy_more, copy_all}
use Rattle.rpc_write.proofs.put_run.Goals as goal

pub loop-i-init : goal.loop-i-init
loop-i-init c = let a = c.args in (omega arith, copy_none a.src.now a.start a.buf.now a.at)

pub overflow_add-buf : goal.overflow_add-buf
overflow_add-buf c = omega (arith, c.fitting-n.ensures.some)

pub bounds-src-start : goal.bounds-src-start
bounds-src-start c = omega (arith, c.fitting-n.ensures.some)

pub overflow_add-buf-in-loop-i : goal.overflow_add-buf-in-loop-i
overflow_add-buf-in-loop-i c = omega (arith, c.fitting-n.ensures.some)

pub bounds-buf-at : goal.bounds-buf-at
bounds-buf-at c = omega (arith, c.loop-i.invariant.1.0, c.fitting-n.ensures.room)

pub loop-i-preserved : goal.loop-i-preserved
loop-i-preserved c = let l = c.loop-i in let a = c.args in
    (omega arith, copy_more a.src.now a.start a.buf.now a.at l.i l.buf l.invariant.1)

pub shape_of-buf : goal.shape_of-buf
shape_of-buf c = c.loop-i.invariant.1.0

pub returns : goal.returns
returns c = let l = c.loop-i in let a = c.args in
    copy_all a.src.now a.start a.buf.now a.at _ _ _ _ c.requires.1.0
    c.fitting-n.ensures l.invariant.0
    c.loop-i-test.false l.invariant.1
