use mathlib.Core.Path.{refl}
use native.Mathlib.Omega.{arith}
use lib.ListN.{length-set}
use mathlib.Core.List.{[]}
use Rattle.trace_events.proofs.ReadingLaws.{after_none, after_more, after_bad, after_all, past_more}
use Rattle.trace_events.proofs.reading.read_numbers.Goals as goal

pub loop-i-init : goal.loop-i-init
loop-i-init c = (omega arith, (omega arith, (refl, (after_none _ _ _ [], λ k h. refl))))

pub returns-in_default : goal.returns-in_default
returns-in_default c = let l = c.loop-i in (
  after_bad _ _ _ l.i l.values _ _ c.loop-i-test.true l.invariant.1.1.1.0
      c.read_u64.ensures c.in_default.is,
  λ k h. l.invariant.1.1.1.1 k (omega arith),
)

pub loop-i-preserved : goal.loop-i-preserved
loop-i-preserved c = let l = c.loop-i in (
  omega arith,
  (
    simp length-set (omega arith),
    (
      simp length-set l.invariant.1.1.0,
      (
        after_more _ _ _ l.i l.values _ _ _ _ c.loop-i-test.true (omega arith)
            l.invariant.1.1.1.0 c.read_u64.ensures c.in-Some.is,
        λ k h. past_more l.values l.i _ k _ (l.invariant.1.1.1.1 k) h,
      ),
    ),
  ),
)

pub returns : goal.returns
returns c = let l = c.loop-i in
    (after_all _ _ _ l.i l.values _ (omega arith) l.invariant.1.1.1.0, λ k h. l.invariant.1.1.1.1 k (omega arith))
