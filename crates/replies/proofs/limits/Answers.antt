use mathlib.Core.Path.{refl, ◌∙◌}
use native.Mathlib.Omega.{arith}
use native.Mathlib.Nat.{not-suc-le-zero}
use lib.ListN.{length-set}
use Rattle.replies.specs.Asked.{on_bits}
use Rattle.replies.proofs.LimitLaws.{allow_more}
use Rattle.replies.proofs.limits.Goals as goal

pub loop-k-init : goal.loop-k-init
loop-k-init c = (omega arith, refl, λ i h. absurd (not-suc-le-zero h))

pub loop-k-preserved : goal.loop-k-preserved
loop-k-preserved c =
    let a = c.args in
    let t = c.loop-k in (
      omega arith,
      length-set t.l t.k c.limits_of.result ∙ t.invariant.1,
      allow_more (on_bits a.connected.now) a.most t.k c.limits_of.result t.l (omega arith) t.invariant.2
          c.limits_of.ensures,
    )

pub returns : goal.returns
returns c = λ k h. c.loop-k.invariant.2 k (omega arith)
