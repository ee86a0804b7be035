use native.Mathlib.Omega.{arith}
use Rattle.layout.proofs.EndLaws.{past_more}
use Rattle.layout.proofs.all_past.Goals as goal

pub loop-p-init : goal.loop-p-init
loop-p-init c = (omega arith, λ e p s h k l. absurd (omega arith))

pub loop-p-preserved : goal.loop-p-preserved
loop-p-preserved c =
    let l = c.loop-p in
    (omega arith, past_more _ _ _ l.p l.acc _ l.invariant.1 c.past-acc.ensures)

pub returns : goal.returns
returns c e p s h = c.loop-p.invariant.1 e p s (omega arith)
