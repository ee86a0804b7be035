use mathlib.Core.Path.{refl}
use native.Mathlib.Nat.{not-suc-le-zero}
use native.Mathlib.Omega.{arith}
use lib.ListN.{length-set}
use Rattle.layout.specs.View.{state_of}
use Rattle.validity.specs.Valid.{topic_param}
use Rattle.validity.proofs.Loops.{fill_more}
use Rattle.validity.proofs.valid.caps.Goals as goal

pub loop-t-init : goal.loop-t-init
loop-t-init c = (omega arith, refl, λ k h. absurd (not-suc-le-zero h))

pub loop-t-preserved : goal.loop-t-preserved
loop-t-preserved c =
    let l = c.loop-t in (
      omega arith,
      simp length-set l.invariant.1,
      fill_more (λ k. topic_param (state_of c.args.table.now) k c.args.j) l.r l.t c.topic_param.result (omega arith)
          l.invariant.2 c.topic_param.ensures,
    )

pub returns : goal.returns
returns c k h = c.loop-t.invariant.2 k (omega arith)
