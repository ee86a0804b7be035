use native.Mathlib.Omega.{arith}
use borrow.Author.Tests.{le-leb}
use Rattle.index.proofs.Index.{every_none, every_more, every_done}
use Rattle.trace_events.proofs.ReadingLaws.{short_end, short_ten, short_last, short_all}
use Rattle.trace_events.proofs.reading.cut_short.Goals as goal

pub returns-then-s-at : goal.returns-then-s-at
returns-then-s-at c = short_end _ _ c.if-s-at.true

pub returns-then-s-at-ge10 : goal.returns-then-s-at-ge10
returns-then-s-at-ge10 c = short_ten _ _ c.if-s-at-ge10.true

pub loop-k-init : goal.loop-k-init
loop-k-init c = (omega arith, (omega arith, (omega arith, (omega arith, every_none _))))

pub returns-then-s-at-lt128 : goal.returns-then-s-at-lt128
returns-then-s-at-lt128 c = let l = c.loop-k in short_last _ _ l.k (omega arith) (omega arith) c.if-s-at-lt128.true

pub loop-k-preserved : goal.loop-k-preserved
loop-k-preserved c = let l = c.loop-k in
    (omega arith, (omega arith, (omega arith, (omega arith, every_more _ l.k l.invariant.1.1.1.1 (le-leb 128 _ c.if-s-at-lt128.false)))))

pub returns : goal.returns
returns c = let l = c.loop-k in
    short_all _ _ (omega arith) (every_done _ _ l.k (omega arith) (omega arith) l.invariant.1.1.1.1)
