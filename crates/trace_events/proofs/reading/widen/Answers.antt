use native.Mathlib.Omega.{arith}
use borrow.Author.Rules.{rules}
use lib.ListN.{length-set}
use Rattle.trace_events.proofs.ReadingLaws.{widened_none, widened_more, widened_all}
use Rattle.trace_events.proofs.reading.widen.Goals as goal

pub loop-k-init : goal.loop-k-init
loop-k-init c = (omega arith, (omega arith, (search rules, widened_none c.args.order.now c.args.n)))

pub loop-k-preserved : goal.loop-k-preserved
loop-k-preserved c =
    let l = c.loop-k in
    let more = widened_more c.args.order.now c.args.n l.k l.order l.invariant.0 (omega arith) l.invariant.1.1.1 in
    (omega arith, (omega arith, (simp length-set l.invariant.1.1.0, more)))

pub returns : goal.returns
returns c =
    let l = c.loop-k in
    widened_all c.args.order.now c.args.n l.k l.order c.requires.0 c.requires.1 l.invariant.1.1.0 (omega arith)
    l.invariant.1.1.1
