use native.Mathlib.Omega.{arith}
use Rattle.replies.specs.Asked.{on_bits}
use Rattle.replies.proofs.LimitLaws.{joined_none, joined_fits, joined_more, joined_done}
use Rattle.replies.proofs.limits_of.Goals as goal

pub loop-j-init : goal.loop-j-init
loop-j-init c = joined_none (on_bits c.args.connected.now) c.args.most c.args.k

pub overflow_mul-w : goal.overflow_mul-w
overflow_mul-w c =
    let a = c.args in
    let l = c.loop-j in
    let h = joined_fits (on_bits a.connected.now) a.most a.k l.j l.w 0 (omega arith) l.invariant (omega arith) in
    omega arith

pub overflow_add-w : goal.overflow_add-w
overflow_add-w c =
    let a = c.args in
    let l = c.loop-j in
    let h = joined_fits (on_bits a.connected.now) a.most a.k l.j l.w c.limit.result (omega arith) l.invariant
    c.limit.ensures.small in
    omega arith

pub loop-j-preserved : goal.loop-j-preserved
loop-j-preserved c =
    let a = c.args in
    let l = c.loop-j in
    joined_more (on_bits a.connected.now) a.most a.k l.j l.w c.limit.result (omega arith) l.invariant c.limit.ensures

pub returns : goal.returns
returns c =
    let a = c.args in
    let l = c.loop-j in
    joined_done (on_bits a.connected.now) a.most a.k l.j l.w (omega arith) l.invariant
