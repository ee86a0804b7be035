use Rattle.index.proofs.Kit.{refl, sym, ◌∙◌, arith}
use lib.ListN.{length}
use Rattle.message_ids.proofs.OrderLaws.{shorter, longer, alike, goes_on, less_here, more_here}
use Rattle.message_ids.proofs.compare.Goals as goal

pub returns-then-a-b : goal.returns-then-a-b
returns-then-a-b c = shorter _ _ _ c.if-a-b.true

pub returns-then-b-a : goal.returns-then-b-a
returns-then-b-a c = longer _ _ _ c.if-b-a.true

pub loop-k-init : goal.loop-k-init
loop-k-init c = (omega arith, refl)

pub returns-then-x-y : goal.returns-then-x-y
returns-then-x-y c =
    let l = c.loop-k in
    less_here _ _ l.k (omega arith) (omega arith) (omega arith) l.invariant.1 c.if-x-y.true

pub returns-then-y-x : goal.returns-then-y-x
returns-then-y-x c =
    let l = c.loop-k in
    more_here _ _ l.k (omega arith) (omega arith) (omega arith) l.invariant.1 c.if-y-x.true

pub loop-k-preserved : goal.loop-k-preserved
loop-k-preserved c =
    let l = c.loop-k in
    (omega arith, goes_on _ _ l.k (omega arith) (omega arith) l.invariant.1 (omega arith))

pub returns : goal.returns
returns c = c.compare_alike.ensures ∙ sym (alike (length c.args.a.now) (length c.args.b.now) _ (omega arith))
