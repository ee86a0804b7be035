use native.Mathlib.Omega.{arith}
use borrow.Author.Count.{below_none, below_more}
use Rattle.notes.proofs.place.Goals as goal

pub loop-p-init : goal.loop-p-init
loop-p-init c = (omega arith, below_none _)

pub returns-then-number-cells : goal.returns-then-number-cells
returns-then-number-cells c =
    let l = c.loop-p in
    record { within = omega arith; before = l.invariant.1; after = λ h. omega arith }

pub loop-p-preserved : goal.loop-p-preserved
loop-p-preserved c =
    let l = c.loop-p in
    (omega arith, below_more _ l.p l.invariant.1 (omega arith))

pub returns : goal.returns
returns c =
    let l = c.loop-p in
    record { within = omega arith; before = λ k h. l.invariant.1 k (omega arith); after = λ h. absurd (omega arith) }
